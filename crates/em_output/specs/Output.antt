-- The texts of answers.
use Rattle.std.specs.Prelude.{ℕ, Bool, if◌then◌else◌, List, ◌++◌, codes}
use Rattle.em_step.specs.declared.event.Answer.{Answer}
use Rattle.em_step.specs.declared.event.Answer.TheVariants as answer
use Rattle.em_step.specs.declared.event.Reason.{Reason}
use Rattle.em_step.specs.declared.event.Reason.TheVariants.{Down, Disabled, Rejected, Undersize, Oversize, Missed}
use Rattle.em_step.specs.declared.refusal.Refusal.{Refusal}
use Rattle.em_step.specs.Refusal.{name_of}
use Rattle.em_journal.specs.Refusal.{name_of_empty}
use Rattle.em_text.specs.Writer.{value_text, decimal_line_text, numbers_text}

abbrev pub done_text : List ℕ
done_text = codes "ok\n"

abbrev pub bit_text : Bool → List ℕ
bit_text bit = if bit then codes "1\n" else codes "0\n"

abbrev pub back_text : ℕ → List ℕ
back_text count = codes "back " ++ decimal_line_text count

abbrev pub bad_line_text : ℕ → List ℕ
bad_line_text number = codes "bad line " ++ decimal_line_text number

-- why a frame was dropped
abbrev pub reason_text : Reason → List ℕ
reason_text Down = codes "down"
reason_text Disabled = codes "disabled"
reason_text Rejected = codes "rejected"
reason_text Undersize = codes "undersize"
reason_text Oversize = codes "oversize"
reason_text Missed = codes "missed"

-- the transmit engine handled the descriptor of an index, and sent a frame of so many octets
abbrev pub sent_text : ℕ → ℕ → List ℕ
sent_text index octets = numbers_text (codes "sent ") index octets (codes "\n")

-- what a performed event prints
abbrev pub answer_text : Answer → List ℕ
answer_text answer.Done = done_text
answer_text (answer.Value value) = value_text value
answer_text answer.Idle = codes "idle\n"
answer_text (answer.Wrote index) = codes "wrote " ++ decimal_line_text index
answer_text (answer.Fetched index) = codes "fetched " ++ decimal_line_text index
answer_text (answer.Sent index octets) = sent_text index octets
answer_text answer.Stored = codes "stored\n"
answer_text (answer.Dropped reason) = codes "dropped " ++ (reason_text reason ++ codes "\n")

-- what is refused prints its name
abbrev pub named_refusal_text : List ℕ → List ℕ
named_refusal_text name = codes "refused " ++ (name ++ codes "\n")

abbrev pub refusal_text : Refusal → List ℕ
refusal_text refusal = named_refusal_text (name_of refusal)

-- of a step back where the journal is empty
abbrev pub empty_text : List ℕ
empty_text = named_refusal_text name_of_empty
