-- The place on a tape: lines by their numbers, from 1.
pub use Rattle.em_tape.specs.Tape.{line_here}
use Rattle.std.specs.Prelude.{ℕ, ◌-◌, List, [], unwrap_or}
use Rattle.em_named.specs.Numbers.{end_of}
use Rattle.em_named.specs.declared.did.Did.{Did}
use Rattle.em_tape.specs.Tape.{Tape, line_at}

-- the text of a line; of none that is there, no octet
abbrev pub text_of : ℕ → Tape → List ℕ
text_of line tape = unwrap_or (line_at line tape.lines) []

-- how many events a line performed
abbrev pub events_of : ℕ → List Did → ℕ
events_of line did = end_of line did - end_of (line - 1) did
