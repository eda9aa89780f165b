-- The rule about receive buffers that lie over each other (this project's profile: the adapter writes each frame into a buffer of
-- its own).
use Rattle.std.specs.Prelude.{ℕ, ◌-◌, ◌==◌, nat_le, nat_lt, if◌then◌else◌, is_some, Bool, false, List, find}
use Rattle.std.specs.Prelude.{Option, None, option_and_then}
use Rattle.std.specs.Option.{option_map, option_map_or, option_or}
use Rattle.std.specs.List.{range_with_len}
use Rattle.em_regs.specs.declared.reg.Reg.{Reg}
use Rattle.em_regs.specs.declared.reg.Reg.TheVariants as reg
use Rattle.em_regs.specs.Ring.{descriptor_at}
use Rattle.em_regs.specs.Setup.{rx_setup}
use Rattle.em_journal.specs.View.{View}
use Rattle.em_inspect.specs.declared.extent.Extent.{Extent}
use Rattle.em_inspect.specs.declared.ring.SidedRing.{SidedRing}
use Rattle.em_inspect.specs.Extent.{overlaps}
use Rattle.em_inspect.specs.Ring.{is_adapters, rx_ring}
use Rattle.em_inspect.specs.Trouble.{claim_of}
use Rattle.em_warnings.specs.declared.warning.Warning.{Warning}
use Rattle.em_warnings.specs.declared.warning.Warning.TheVariants as warning
use Rattle.em_warnings.specs.Before.{value_before}

-- the buffer of descriptor i, where that is the adapter's and has one
abbrev pub owned_buffer : ℕ → List ℕ → SidedRing → ℕ → Option Extent
owned_buffer base memory r i = if is_adapters r.setup i then claim_of r base memory i else None

-- descriptor j is another one than i, is the adapter's, and has a buffer that this one lies over
abbrev pub is_under : ℕ → List ℕ → SidedRing → ℕ → Extent → ℕ → Bool
is_under base memory r i buffer j = if j == i then false else option_map_or (overlaps buffer) (owned_buffer base memory r j) false

-- there is such a one
abbrev pub is_over_one : ℕ → List ℕ → SidedRing → ℕ → Extent → Bool
is_over_one base memory r i buffer =
    is_some (find (is_under base memory r i buffer) (range_with_len 0 r.setup.count))

-- descriptor i is the adapter's, and its buffer lies over that of another one
abbrev pub is_over : ℕ → List ℕ → SidedRing → ℕ → Bool
is_over base memory r i = option_map_or (is_over_one base memory r i) (owned_buffer base memory r i) false

abbrev pub over_from : ℕ → List ℕ → SidedRing → ℕ → ℕ → Option ℕ
over_from base memory r from to = find (is_over base memory r) (range_with_len from (to - from))

-- the first such of those that were given since the tail was another, going round
abbrev pub first_over : ℕ → List ℕ → SidedRing → ℕ → Option ℕ
first_over base memory r was =
    if nat_le was r.setup.tail then over_from base memory r was r.setup.tail
    else option_or (over_from base memory r was r.setup.count) (over_from base memory r 0 r.setup.tail)

-- of a ring of up to 1,024 descriptors
abbrev pub given_over : ℕ → List ℕ → SidedRing → ℕ → Option Warning
given_over base memory r was =
    if nat_lt 1024 r.setup.count then None
    else option_map (λ i. warning.BuffersOverlap reg.Rdt i (descriptor_at r.setup i)) (first_over base memory r was)

abbrev pub buffers_overlap : View → Reg → Option Warning
buffers_overlap v reg.Rdt =
    option_and_then (given_over v.present.base v.present.memory (rx_ring v.present.profile (rx_setup v.present.registers)))
    (value_before v reg.Rdt)
buffers_overlap v _ = None
