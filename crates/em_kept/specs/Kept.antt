-- The lines that are kept of a run.
use Rattle.std.specs.Prelude.{ℕ, Bool, true, false, ◌-◌, ◌*◌, ◌/◌, ◌%◌, min, ◌==◌, ◌&&◌, nat_le, if◌then◌else◌}
use Rattle.std.specs.Prelude.{List, [], ◌∷◌, ◌++◌, length, replicate, codes, decimal}
use Rattle.std.specs.List.{flat_map}
use Rattle.em_step.specs.Event.{Event, reads, writes, pokes, arrives, links, receives, transmits}
use Rattle.em_step.specs.declared.event.Answer.{Answer}
use Rattle.em_step.specs.declared.event.Answer.TheVariants as answer
use Rattle.em_step.specs.declared.refusal.Refusal.{Refusal}
use Rattle.em_step.specs.declared.refusal.Refusal.TheVariants.{Memory}
use Rattle.em_step.specs.Refusal.{name_of}
use Rattle.em_text.specs.Writer.{hex_text, value_digits}
use Rattle.em_output.specs.Output.{reason_text}
use Rattle.em_kept.specs.Digits.{number_digits}
use Rattle.em_kept.specs.Source.{Source, end_text, place_of, placed}

-- ---- what a line says

-- a number behind words
abbrev pub number_behind : List ℕ → ℕ → List ℕ
number_behind words number = words ++ decimal number

-- two numbers with words before and between them
abbrev pub numbers_behind : List ℕ → ℕ → List ℕ → ℕ → List ℕ
numbers_behind words first between second = words ++ (decimal first ++ (between ++ decimal second))

-- octets behind words
abbrev pub octets_behind : List ℕ → List ℕ → List ℕ
octets_behind words octets = words ++ hex_text octets

-- an event, as em_line reads it
abbrev pub event_words : Event → List ℕ
event_words (reads o) = codes "r " ++ number_digits o
event_words (writes o v) = codes "w " ++ (number_digits o ++ (codes " " ++ number_digits v))
event_words (pokes a octets) = octets_behind (codes "poke " ++ (number_digits a ++ codes " ")) octets
event_words (arrives octets) = octets_behind (codes "arrive ") octets
event_words (links up) = if up then codes "link up" else codes "link down"
event_words receives = codes "rx"
event_words transmits = codes "tx"

-- steps back
abbrev pub back_words : ℕ → List ℕ
back_words asked = number_behind (codes "back ") asked

-- an event in a comment: of octets how many they are
abbrev pub told_words : Event → List ℕ
told_words (pokes a octets) = codes "poke " ++ (number_digits a ++ number_behind (codes " length ") (length octets))
told_words (arrives octets) = number_behind (codes "arrive length ") (length octets)
told_words e = event_words e

-- ---- the answer that it expects

abbrev pub answer_words : Answer → List ℕ
answer_words answer.Done = codes "ok"
answer_words (answer.Value value) = value_digits value
answer_words answer.Idle = codes "idle"
answer_words (answer.Wrote index) = number_behind (codes "wrote ") index
answer_words (answer.Fetched index) = number_behind (codes "fetched ") index
answer_words (answer.Sent index octets) = numbers_behind (codes "sent ") index (codes " ") octets
answer_words answer.Stored = codes "stored"
answer_words (answer.Dropped reason) = codes "dropped " ++ reason_text reason

abbrev pub refusal_words : Refusal → List ℕ
refusal_words refusal = codes "refused " ++ name_of refusal

-- behind what is said
abbrev pub expected : List ℕ → List ℕ
expected answer = codes " =" ++ answer

-- ---- a line

-- what stands behind what is said, up to the end of the line
abbrev pub behind_text : List ℕ → Source → List ℕ
behind_text answer source = expected answer ++ end_text source

-- what is said, the answer that is expected, and where it comes from
abbrev pub line_of : List ℕ → List ℕ → Source → List ℕ
line_of said answer source = said ++ (expected answer ++ placed (place_of source))

-- of an event that was performed
abbrev pub event_line : Event → Answer → Source → List ℕ
event_line e answer source = line_of (event_words e) (answer_words answer) source

-- there are octets, and not more than an event takes
abbrev pub can_stand : List ℕ → Bool
can_stand octets = nat_le 1 (length octets) && nat_le (length octets) 20_000

abbrev pub is_sayable : Event → Bool
is_sayable (pokes a octets) = can_stand octets
is_sayable (arrives octets) = can_stand octets
is_sayable e = true

-- An event that was refused is played again where a line says it and the same refuses it then: memory may be there.
abbrev pub has_line : Event → Refusal → Bool
has_line e Memory = false
has_line e refusal = is_sayable e

abbrev pub comment_words : Event → List ℕ
comment_words e = codes "# " ++ told_words e

abbrev pub refused_words : Event → Refusal → List ℕ
refused_words e refusal = if has_line e refusal then event_words e else comment_words e

-- of an event that was refused
abbrev pub refused_line : Event → Refusal → Source → List ℕ
refused_line e refusal source = line_of (refused_words e refusal) (refusal_words refusal) source

-- of as many steps back as a line takes
abbrev pub back_line : ℕ → ℕ → Source → List ℕ
back_line asked taken source = line_of (back_words asked) (back_words taken) source

-- ---- as it is written

abbrev pub text_of : List ℕ → List ℕ
text_of line = line ++ codes "\n"

abbrev pub event_text : Event → Answer → Source → List ℕ
event_text e answer source = text_of (event_line e answer source)

abbrev pub refused_text : Event → Refusal → Source → List ℕ
refused_text e refusal source = text_of (refused_line e refusal source)

-- ---- steps back

-- a line for each 65,536 that were taken
abbrev pub whole_lines : ℕ → Source → List (List ℕ)
whole_lines count source = replicate count (back_line 65_536 65_536 source)

-- one line for the rest, where more were asked for
abbrev pub rest_line : ℕ → ℕ → Source → List ℕ
rest_line left taken source = back_line (min left 65_536) taken source

abbrev pub rest_lines : ℕ → ℕ → Source → List (List ℕ)
rest_lines left taken source = if left == 0 then [] else rest_line left taken source ∷ []

abbrev pub back_lines : ℕ → ℕ → Source → List (List ℕ)
back_lines asked taken source =
    let whole = taken / 65_536 in
    whole_lines whole source ++ rest_lines (asked - whole * 65_536) (taken % 65_536) source

abbrev pub whole_text : ℕ → Source → List ℕ
whole_text count source = flat_map text_of (whole_lines count source)

abbrev pub rest_text : ℕ → ℕ → Source → List ℕ
rest_text left taken source = flat_map text_of (rest_lines left taken source)

abbrev pub back_text : ℕ → ℕ → Source → List ℕ
back_text asked taken source = flat_map text_of (back_lines asked taken source)
