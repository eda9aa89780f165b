-- Receive steps one after another, with nothing between them.
use Rattle.std.specs.Prelude.{◌≡◌, ℕ, suc, zero, Ok}
use Rattle.em_step.specs.Event.{receives}
use Rattle.em_step.specs.State.{State}
use Rattle.em_step.specs.Step.{step}
use Rattle.em_step.specs.declared.event.Answer.{Answer}

-- so many receive steps, none of which is refused, lead from one state to the other
abbrev pub AreReceived : ℕ → State → State → Type 0
AreReceived zero s t = t ≡ s
AreReceived (suc k) s t = (m : State) × AreReceived k s m × ((answer : Answer) × (step m receives ≡ Ok (answer, t)))
