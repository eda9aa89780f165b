-- Places at which the same event is the newest that stands.
use Rattle.std.specs.Prelude.{◌≡◌, ℕ, ◌<◌, ◌≤◌, true, length, take, slice_get, Some}
use Rattle.em_named.specs.declared.did.Name.{Name}
use Rattle.em_script.specs.Session.{Session}
use Rattle.em_tape.specs.Tape.{HadMemory, HoldsTape, Tape, standing}

-- it is known what led to the place: each answer could be written, memory was refused to no line, and the journal reaches
-- behind the newest event
pub record IsKnownPlace (tape : Tape) : Type 0 where
  pub holds : HoldsTape tape
  pub answered : tape.answered ≡ true
  pub had : HadMemory holds.place.all
  pub reaches : 0 < length tape.session.machine.past

-- two tapes begin with the same, and so many lines that stand whole on both are the same
pub record BeginAlike (n : ℕ) (one other : Tape) : Type 0 where
  pub first : one.first ≡ other.first
  pub lines : take n one.lines ≡ take n other.lines
  pub here : n ≤ one.whole
  pub there : n ≤ other.whole

-- the event of this name is the newest that stands
abbrev pub IsNewest : Tape → Name → Type 0
IsNewest tape name = slice_get (standing tape) 0 ≡ Some name

-- whether a driver stands there, its plan, and how many events its last call performed are the same
pub record SameDriver (one other : Session) : Type 0 where
  pub started : other.started ≡ one.started
  pub plan : other.plan ≡ one.plan
  pub events : other.events ≡ one.events
