-- Why a receive step is idle.
use Rattle.std.specs.Prelude.{◌≡◌, ◌==◌, nat_le, not, ℕ, Bool, List, [], ◌∷◌, length, Option, Ok}
use Rattle.em_regs.specs.declared.setup.RxSetup.{RxSetup}
use Rattle.em_regs.specs.Setup.{rx_setup}
use Rattle.em_step.specs.Event.{receives}
use Rattle.em_step.specs.State.{State}
use Rattle.em_step.specs.Step.{step}
use Rattle.em_step.specs.declared.event.Answer.TheVariants.{Idle}
use Rattle.em_reasons.specs.declared.rx_idle.RxIdle.{RxIdle}
use Rattle.em_reasons.specs.declared.rx_idle.RxIdle.TheVariants.{Disabled, NoRing, HeadPast, TailPast, Empty, NoFrame}
use Rattle.em_reasons.specs.Table.{first_of}

-- RCTL.EN is clear, the ring has no descriptor, RDH and then RDT is at the ring's count or past it, RDH = RDT, and of
-- so many frames in the FIFO there are none
abbrev pub rx_idle_table : RxSetup → ℕ → List (Bool × RxIdle)
rx_idle_table q frames =
    (not q.enabled, Disabled)
    ∷ (q.count == 0, NoRing)
    ∷ (nat_le q.count q.head, HeadPast q.head q.count)
    ∷ (nat_le q.count q.tail, TailPast q.tail q.count)
    ∷ (q.head == q.tail, Empty q.head)
    ∷ (frames == 0, NoFrame)
    ∷ []

-- why a receive step is idle, if it is
abbrev pub rx_idle : State → Option RxIdle
rx_idle s = first_of (rx_idle_table (rx_setup s.registers) (length s.fifo.frames))

-- a receive step is idle, and changes nothing
abbrev pub IsIdleReceiving : State → Type 0
IsIdleReceiving s = step s receives ≡ Ok (Idle, s)
