-- Calls of a driver and events of others, one after another, and how many steps back lead over them.
use Rattle.std.specs.Prelude.{◌≡◌, ◌⊎◌, ℕ, ◌+◌, List, [], ◌∷◌, ◌++◌}
use Rattle.em_step.specs.Event.{Event}
use Rattle.em_step.specs.State.{State}
use Rattle.em_step.specs.declared.event.Answer.{Answer}
use Rattle.em_journal.specs.History.{performs, Does}
use Rattle.em_journal.specs.View.{View, states}
use Rattle.em_driver.specs.Course.{Course, Follows}
use Rattle.em_driver.specs.World.{World}

-- One of them: how many events it performed on the machine, and what the machine then shows.
pub record Leg : Type 0 where
  pub steps : ℕ
  pub now : View

-- a call of a driver: its own events, and those of the turns that fell into it
pub record IsCall (A : Type 0) (m : View) (leg : Leg) : Type 0 where
  pub before : World
  pub after : World
  pub course : Course A
  pub events : ℕ
  pub answer : A
  pub follows : Follows before course events answer after
  pub from : before.machine ≡ m
  pub to : after.machine ≡ leg.now
  pub count : leg.steps + before.performed ≡ events + after.performed

-- an event that somebody performed between two calls
pub record IsEvent (m : View) (leg : Leg) : Type 0 where
  pub event : Event
  pub answer : Answer
  pub does : Does m (performs event answer) leg.now
  pub count : leg.steps ≡ 1

-- A view shows the beginning of what another one shows: the same state, and of those before it as many or fewer. So it
-- is where calls and events were performed and taken back again, since the budget may have dropped older records for
-- theirs.
abbrev pub Begins : View → View → Type 0
Begins v m = (rest : List State) × (states m ≡ states v ++ rest)

-- Each of the list is one or the other. It begins where the one before it ended, or where steps back led there again.
abbrev pub AreLegs : (A : Type 0) → View → List Leg → Type 0
AreLegs A m [] = Unit {0}
AreLegs A m (leg ∷ legs) =
    (from : View) × Begins from m × (IsCall A from leg ⊎ IsEvent from leg) × AreLegs A leg.now legs

-- the events of all of them
abbrev pub all_steps : List Leg → ℕ
all_steps [] = 0
all_steps (leg ∷ legs) = leg.steps + all_steps legs

-- what the machine shows behind the last
abbrev pub after_legs : View → List Leg → View
after_legs m [] = m
after_legs m (leg ∷ legs) = after_legs leg.now legs
