-- What the event says that a search names.
use Rattle.std.specs.Prelude.{◌≡◌, ◌≢◌, ℕ, ◌≤◌}
use Rattle.em_journal.specs.View.{states}
use Rattle.em_trail.specs.Trail.{TellsAt}
use Rattle.em_named.specs.Numbers.{number_of}
use Rattle.em_named.specs.declared.did.Name.{Name}
use Rattle.em_tape.specs.Led.{HasLed}
use Rattle.em_tape.specs.Tape.{Tape}
use Rattle.em_watch.specs.Change.{SeesSame}
use Rattle.em_watch.specs.Watching.{sight}
use Rattle.em_watch.specs.declared.watch.Watch.{Watch}
use Rattle.em_debugger.specs.declared.search.Found.{Found}

-- It stands so many steps back from the place of a tape, and this is its name. It led from one state to the next, it has
-- the number that is told, the note tells of it, what is watched was another before it than after it, and from there up to
-- where the search began the same is seen.
pub record HasFound (tape : Tape) (watch : Watch) (back : ℕ) (found : Found) : Type 0 where
  pub steps : ℕ
  pub older : back ≤ steps
  pub name : Name
  pub has : HasLed tape steps name
  pub number : found.event ≡ number_of tape.did name
  pub note : TellsAt (states tape.session.machine) steps found.note
  pub before : sight watch has.led.before ≡ found.difference.before
  pub after : sight watch has.led.after ≡ found.difference.after
  pub differs : found.difference.before ≢ found.difference.after
  pub newest : (i : ℕ) → back ≤ i → i ≤ steps → SeesSame watch tape.session.machine i back
