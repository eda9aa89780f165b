-- What becomes of a line.
use Rattle.std.specs.Prelude.{◌≡◌, ℕ, List, Option, Some, None, Result, Ok, Err, IfOk}
use Rattle.em_step.specs.declared.event.Answer.{Answer}
use Rattle.em_step.specs.declared.refusal.Refusal.{Refusal}
use Rattle.em_step.specs.Refusal.{name_of as name_of_refusal}
use Rattle.em_journal.specs.Refusal.{name_of_empty}
use Rattle.em_driver.specs.Outcome.{name_of as name_of_cause}
use Rattle.em_text.specs.Writer.{Writes}
use Rattle.em_text.specs.declared.writer.WriteFailed.{WriteFailed}
use Rattle.em_script.specs.declared.outcome.Outcome.{Outcome}
use Rattle.em_script.specs.declared.outcome.Outcome.TheVariants as outcome
use Rattle.em_script.specs.declared.outcome.Refused.{Refused}
use Rattle.em_script.specs.declared.outcome.Refused.TheVariants as refused
use Rattle.em_script.specs.NoDriver.{name_of as name_of_no_driver}

-- the name of what refused a line, as it is printed
abbrev pub name_of : Refused → List ℕ
name_of (refused.By refusal) = name_of_refusal refusal
name_of refused.Empty = name_of_empty
name_of refused.NoDriver = name_of_no_driver
name_of (refused.Stopped cause) = name_of_cause cause

-- what the event of a line came to that came out so
abbrev pub event_came : Outcome → Option (Result Answer Refusal)
event_came (outcome.Answered answer) = Some (Ok answer)
event_came (outcome.Refused (refused.By refusal)) = Some (Err refusal)
event_came _ = None

-- the text was written, or a front of it where the writer failed; with the text whole, the line came out so
pub record Prints (text : List ℕ) (outcome : Outcome) (old new : Option (List ℕ)) (result : Result Outcome WriteFailed)
    : Type 0 where
  pub written : Writes old new result text
  pub ended : IfOk result (λ o. o ≡ outcome)
