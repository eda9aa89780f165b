-- A line that is written in two parts.
use Rattle.std.proofs.Common.{◌≡◌, ◌++◌, ℕ, List, Option, Result, Ok, Err}
use Rattle.std.specs.Prelude.{IsErr}
use Rattle.std.proofs.lemmas.Bool.{false≢true}
use Rattle.std.specs.Io.KnownBytes.{Appends}
use Rattle.em_text.specs.Writer.{WritesPart}
use Rattle.em_text.specs.declared.writer.WriteFailed.{WriteFailed}
use Rattle.em_text.proofs.WritingLemmas.{WritesPart-more}
use Rattle.em_script.specs.Outcome.{Prints}
use Rattle.em_script.specs.declared.outcome.Outcome.{Outcome}

-- the first part was written, and of the second a front
pub prints_part : {old mid new : Option (List ℕ)} (result : Result Outcome WriteFailed) (outcome : Outcome)
    (front behind text : List ℕ) → IsErr result → Appends old mid front → WritesPart mid new behind
    → text ≡ front ++ behind → Prints text outcome old new result
prints_part (Ok came) outcome front behind text failed first second is = absurd (false≢true failed)
prints_part (Err failure) outcome front behind text failed first second is =
    record { written = WritesPart-more front first second is; ended = tt }
