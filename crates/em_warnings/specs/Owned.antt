-- The rule about octets that a driver writes while they are the adapter's (manual, chapters on the descriptor queues: what lies
-- between head and tail is the adapter's).
use Rattle.std.specs.Prelude.{ℕ, ◌-◌, ◌%◌, ◌^◌, ◌&&◌, ◌||◌, if◌then◌else◌, Bool, false, List, find}
use Rattle.std.specs.Prelude.{Option, None}
use Rattle.std.specs.Option.{option_map, option_map_or, option_or}
use Rattle.std.specs.List.{range_with_len}
use Rattle.em_regs.specs.Ring.{descriptor_at}
use Rattle.em_regs.specs.Setup.{rx_setup, tx_setup}
use Rattle.em_step.specs.State.{State}
use Rattle.em_inspect.specs.declared.extent.Extent.{Extent}
use Rattle.em_inspect.specs.declared.ring.SidedRing.{SidedRing}
use Rattle.em_inspect.specs.Extent.{overlaps}
use Rattle.em_inspect.specs.Ring.{is_adapters, rx_ring, tx_ring}
use Rattle.em_warnings.specs.declared.warning.Warning.{Warning}
use Rattle.em_warnings.specs.declared.warning.Warning.TheVariants as warning
use Rattle.em_warnings.specs.Overlaps.{owned_buffer}
use Rattle.em_warnings.specs.Rings.{head_of}

-- the 16 octets of descriptor i (below 2^64, as all of memory lies)
abbrev pub extent_at : SidedRing → ℕ → Extent
extent_at r i = record { at = descriptor_at r.setup i % 2 ^ 64; size = 16 }

-- the buffer of descriptor i is written
abbrev pub is_in_buffer : ℕ → List ℕ → Extent → SidedRing → ℕ → Bool
is_in_buffer base memory write r i = option_map_or (overlaps write) (owned_buffer base memory r i) false

-- descriptor i is the adapter's, and octets of it or of its buffer are written
abbrev pub is_written : ℕ → List ℕ → Extent → SidedRing → ℕ → Bool
is_written base memory write r i =
    is_adapters r.setup i && (overlaps write (extent_at r i) || is_in_buffer base memory write r i)

abbrev pub written_from : ℕ → List ℕ → Extent → SidedRing → ℕ → ℕ → Option ℕ
written_from base memory write r from to = find (is_written base memory write r) (range_with_len from (to - from))

-- the first such from the head on, going round
abbrev pub first_written : ℕ → List ℕ → Extent → SidedRing → Option ℕ
first_written base memory write r =
    option_or (written_from base memory write r r.setup.head r.setup.count)
    (written_from base memory write r 0 r.setup.head)

-- of a ring that is enabled
abbrev pub in_ring : ℕ → List ℕ → Extent → SidedRing → Option Warning
in_ring base memory write r =
    if r.setup.enabled
    then option_map (λ i. warning.WrittenWhileOwned (head_of r.side) i (descriptor_at r.setup i))
    (first_written base memory write r)
    else None

-- of the receive ring, or else of the transmit ring
abbrev pub written_while_owned : State → Extent → Option Warning
written_while_owned s write =
    option_or (in_ring s.base s.memory write (rx_ring s.profile (rx_setup s.registers)))
    (in_ring s.base s.memory write (tx_ring s.profile (tx_setup s.registers)))
