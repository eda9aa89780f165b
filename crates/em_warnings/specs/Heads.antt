-- The rules about a ring's head.
use Rattle.std.specs.Prelude.{ℕ, ◌+◌, ◌-◌, ◌%◌, ◌==◌, ◌&&◌, nat_le, nat_lt, not, if◌then◌else◌, Bool}
use Rattle.std.specs.Prelude.{Option, Some, None, option_and_then}
use Rattle.em_regs.specs.declared.reg.Reg.{Reg}
use Rattle.em_regs.specs.declared.ring.Ring.{Ring}
use Rattle.em_journal.specs.View.{View}
use Rattle.em_inspect.specs.declared.ring.SidedRing.{SidedRing}
use Rattle.em_warnings.specs.declared.warning.Warning.{Warning}
use Rattle.em_warnings.specs.declared.warning.Warning.TheVariants as warning
use Rattle.em_warnings.specs.Before.{value_before}
use Rattle.em_warnings.specs.Rings.{control_of, ring_of_head, ring_of_tail}

-- ---- tail-past-head (manual, chapters on the descriptor queues: head and tail that are the same mean an empty ring)

-- the ring is enabled, and what waited before, from the head to the old tail, and what was given since, from there to the
-- new one, are as many descriptors as the ring has, or more
abbrev pub goes_past : Ring → ℕ → Bool
goes_past r was =
    r.enabled
    && nat_lt r.head r.count
    && nat_lt r.tail r.count
    && nat_lt was r.count
    && nat_le r.count ((was + r.count - r.head) % r.count + (r.tail + r.count - was) % r.count)

abbrev pub past_head : Reg → SidedRing → ℕ → Option Warning
past_head tail r was = if goes_past r.setup was then Some (warning.TailPastHead tail r.setup.tail r.setup.count) else None

abbrev pub tail_past_head : View → Reg → Option Warning
tail_past_head v tail =
    option_and_then (λ r. option_and_then (past_head tail r) (value_before v tail)) (ring_of_tail v.present tail)

-- ---- head-while-enabled (manual, register descriptions of RDH and TDH: software writes them only before the unit is enabled)

-- the ring is enabled, and its head is another than it was
abbrev pub moved : Reg → SidedRing → ℕ → Option Warning
moved head r was =
    if r.setup.enabled && nat_lt 0 r.setup.count && not (was == r.setup.head)
    then Some (warning.HeadWhileEnabled head (control_of r.side)) else None

abbrev pub head_while_enabled : View → Reg → Option Warning
head_while_enabled v head =
    option_and_then (λ r. option_and_then (moved head r) (value_before v head)) (ring_of_head v.present head)
