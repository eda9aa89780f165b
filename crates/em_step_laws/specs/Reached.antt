-- The states that an adapter comes to.
use Rattle.std.specs.Prelude.{◌≡◌, ℕ, List, [], ◌∷◌, Ok}
use Rattle.em_regs.specs.declared.profile.Profile.{Profile}
use Rattle.em_step.specs.Cells.{fresh_as, shows}
use Rattle.em_step.specs.Event.{Event}
use Rattle.em_step.specs.State.{State}
use Rattle.em_step.specs.Step.{step}
use Rattle.em_step.specs.declared.event.Answer.{Answer}

-- events, the newest first and none of them refused, lead from one state to the other
abbrev pub ArePerformed : List Event → State → State → Type 0
ArePerformed [] s t = t ≡ s
ArePerformed (e ∷ events) s t =
    (m : State) × ArePerformed events s m × ((answer : Answer) × (step m e ≡ Ok (answer, t)))

-- some events lead a new adapter, of either profile, to this state
pub record IsReached (s : State) : Type 0 where
  pub profile : Profile
  pub base : ℕ
  pub size : ℕ
  pub eeprom : List ℕ
  pub events : List Event
  pub performed : ArePerformed events (shows (fresh_as profile base size eeprom)) s
