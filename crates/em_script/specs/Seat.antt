-- Where the machine of a session is.
use Rattle.std.specs.Prelude.{◌≡◌, ℕ, Bool, true, false, if◌then◌else◌, [], Some, None}
use Rattle.em_step.specs.Cells.{fresh, shows}
use Rattle.em_journal.specs.View.{opening}
use Rattle.em_driver.specs.World.{World, quiet}
use Rattle.em_script.specs.Session.{Session}
use Rattle.em_script.specs.Calling.{init_layout}
use Rattle.em_script.specs.declared.seat.Seat.{Seat}
use Rattle.em_script.specs.declared.seat.Seat.TheVariants.{Bare, Driven, Moved}

-- the machine with the plan for the next call; of a seat that was moved, any
abbrev pub world_in : {M : Type 0} → Seat M → World
world_in (Bare turns) = turns
world_in (Driven driver) = driver.bus
world_in Moved = quiet (opening 0 (shows (fresh 0 0 [])))

abbrev pub is_driven : {M : Type 0} → Seat M → Bool
is_driven (Driven driver) = true
is_driven _ = false

abbrev pub session_of : {M : Type 0} → Seat M → Bool → ℕ → Session
session_of seat planned events = record {
  machine = (world_in seat).machine;
  started = is_driven seat;
  plan = if planned then Some (world_in seat).plan else None;
  events = events;
}

-- no turn of the plan was taken, and where none was set there is none; nobody acts beside it
pub record IsReady (w : World) (planned : Bool) : Type 0 where
  pub stored : w.stored ≡ []
  pub performed : w.performed ≡ 0
  pub refused : w.refused ≡ 0
  pub fed : w.starved ≡ false
  pub scarce : w.scarce ≡ true
  pub spared : w.spared ≡ None
  pub none : planned ≡ false → w.plan ≡ []

-- between two lines no seat is moved, and a driver is one that a line started
abbrev pub IsSeated : {M : Type 0} → Seat M → Bool → Type 0
IsSeated (Bare turns) planned = IsReady turns planned
IsSeated (Driven driver) planned = IsReady driver.bus planned × (driver.layout ≡ init_layout)
IsSeated Moved planned = ⊥
