-- Why a transmit step is idle.
use Rattle.std.specs.Prelude.{◌≡◌, ◌==◌, nat_le, not, Bool, List, [], ◌∷◌, Option, Ok}
use Rattle.em_regs.specs.declared.setup.TxSetup.{TxSetup}
use Rattle.em_regs.specs.Setup.{tx_setup}
use Rattle.em_step.specs.Engines.{is_halted}
use Rattle.em_step.specs.Event.{transmits}
use Rattle.em_step.specs.State.{State}
use Rattle.em_step.specs.Step.{step}
use Rattle.em_step.specs.declared.event.Answer.TheVariants.{Idle}
use Rattle.em_reasons.specs.declared.tx_idle.TxIdle.{TxIdle}
use Rattle.em_reasons.specs.declared.tx_idle.TxIdle.TheVariants.{Disabled, NoRing, HeadPast, TailPast, Empty, LinkDown}
use Rattle.em_reasons.specs.Table.{first_of}

-- TCTL.EN is clear, the ring has no descriptor, TDH and then TDT is at the ring's count or past it, TDH = TDT, and
-- sending is halted, since the link is down
abbrev pub tx_idle_table : TxSetup → Bool → List (Bool × TxIdle)
tx_idle_table q halted =
    (not q.enabled, Disabled)
    ∷ (q.count == 0, NoRing)
    ∷ (nat_le q.count q.head, HeadPast q.head q.count)
    ∷ (nat_le q.count q.tail, TailPast q.tail q.count)
    ∷ (q.head == q.tail, Empty q.head)
    ∷ (halted, LinkDown)
    ∷ []

-- why a transmit step is idle, if it is
abbrev pub tx_idle : State → Option TxIdle
tx_idle s = first_of (tx_idle_table (tx_setup s.registers) (is_halted s))

-- a transmit step is idle, and changes nothing
abbrev pub IsIdleSending : State → Type 0
IsIdleSending s = step s transmits ≡ Ok (Idle, s)
