-- What the name of an event says.
use Rattle.std.specs.Prelude.{◌≡◌, ℕ, ◌≤◌, List, take, slice_get, Some}
use Rattle.em_journal.specs.History.{Call}
use Rattle.em_journal.specs.View.{states}
use Rattle.em_named.specs.Lines.{AreDid, NamedLed}
use Rattle.em_named.specs.Numbers.{name_of, number_of}
use Rattle.em_named.specs.declared.did.Name.{Name}
use Rattle.em_trail.specs.Trail.{Tells}
use Rattle.em_trail.specs.declared.note.Note.{Note}
use Rattle.em_tape.specs.Tape.{Tape, standing}

-- It is the name of the event that stands so many steps back from the place. Its line stands whole, and the event is the one
-- that the line performed in that place: it led, by `step`, from the state shown one step further back to the state shown
-- there. And it is found by its number.
pub record HasLed (tape : Tape) (k : ℕ) (one : Name) : Type 0 where
  pub at : slice_get (standing tape) k ≡ Some one
  pub last : one.line ≤ tape.whole
  -- the calls of the machine that the whole lines made
  pub lines : List (List Call)
  pub did : AreDid lines (take tape.whole tape.did)
  pub led : NamedLed lines (states tape.session.machine) k one
  pub found : name_of (number_of tape.did one) tape.did ≡ Some one

-- It is the name of the event that stands so many steps back, and the note tells of an event that led from the same state to
-- the same state.
pub record IsTold (tape : Tape) (k : ℕ) (one : Name) (note : Note) : Type 0 where
  pub named : HasLed tape k one
  pub tells : Tells note named.led.before named.led.after
