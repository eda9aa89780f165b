-- The rule by which a read of a register has a warning (manual, chapter on the interrupt registers: a read of ICR clears
-- it). It is asked of what the journal holds when the read has been performed.
use Rattle.std.specs.Prelude.{ℕ, ◌-◌, ◌==◌, ◌&&◌, nat_lt, bit_and, false, Bool, List, Option, Some, None, find}
use Rattle.std.specs.Prelude.{if◌then◌else◌, option_and_then, slice_get}
use Rattle.std.specs.Option.{option_map_or}
use Rattle.std.specs.List.{range_with_len}
use Rattle.em_regs.specs.declared.reg.Reg.{Reg}
use Rattle.em_regs.specs.declared.reg.Reg.TheVariants as reg
use Rattle.em_regs.specs.declared.ring.Ring.{Ring}
use Rattle.em_regs.specs.Ring.{rx_ring}
use Rattle.em_regs.specs.Setup.{rx_setup}
use Rattle.em_step.specs.State.{State}
use Rattle.em_journal.specs.View.{View}
use Rattle.em_inspect.specs.Ring.{octets_at}
use Rattle.em_watch.specs.Watching.{sights}
use Rattle.em_watch.specs.declared.watch.Sight.{Sight}
use Rattle.em_watch.specs.declared.watch.Sight.TheVariants.{Value}
use Rattle.em_watch.specs.declared.watch.Watch.TheVariants.{Register}
use Rattle.em_warnings.specs.declared.flaw.Flaw.TheVariants.{StatusLeft}
use Rattle.em_warnings.specs.declared.warning.Warning.{Warning}
use Rattle.em_warnings.specs.declared.warning.Warning.TheVariants.{ReadAgain}
use Rattle.em_warnings.specs.Flaw.{is_in}
use Rattle.em_warnings.specs.Rules.{rx_causes}

abbrev pub value_in : Option Sight → ℕ
value_in (Some (Value value)) = value
value_in _ = 0

-- what a register held so many steps back; where steps back do not lead so far, 0
abbrev pub value_back : View → Reg → ℕ → ℕ
value_back v reg back = value_in (slice_get (sights (Register reg) v) back)

-- how many steps back lead to where ICR last held causes, of up to 16
abbrev pub cleared_back : View → Option ℕ
cleared_back v = find (λ back. nat_lt 0 (value_back v reg.Icr back)) (range_with_len 1 16)

-- the descriptor before the head, going round
abbrev pub before_head : Ring → ℕ
before_head r = if r.head == 0 then r.count - 1 else r.head - 1

-- a frame waits for the driver: that descriptor, the last one that the adapter wrote back, has DD
abbrev pub waits : Ring → ℕ → List ℕ → Bool
waits r base memory =
    option_map_or (λ octets. nat_lt 0 r.count && is_in StatusLeft octets) (octets_at r base memory
    (before_head r)) false

abbrev pub frame_waits : State → Bool
frame_waits s = waits (rx_ring (rx_setup s.registers)) s.base s.memory

-- so many steps back the causes stood that were cleared there: one of them of receiving, with an event at least between
-- that one and the read, and since then the driver gave back no descriptor and took no frame
abbrev pub left_waiting : View → ℕ → Option Warning
left_waiting v back =
    if nat_lt 2 back
    && nat_lt 0 (bit_and (value_back v reg.Icr back) rx_causes)
    && value_back v reg.Rdt (back - 1) == value_back v reg.Rdt 0
    && frame_waits v.present
    then Some (ReadAgain (value_back v reg.Icr back)) else None

abbrev pub read_again : View → Option Warning
read_again v = option_and_then (left_waiting v) (cleared_back v)
