-- The rings as the registers set them up, and whose each descriptor is.
use Rattle.std.specs.Prelude.{ℕ, ◌==◌, nat_lt, if◌then◌else◌, List, Option, Some, None, Result, Ok, Err}
use Rattle.em_regs.specs.Setup.{rx_setup, tx_setup}
use Rattle.em_regs.specs.declared.ring.Ring.{Ring}
use Rattle.em_step.specs.State.{State}
use Rattle.em_journal.specs.View.{View}
use Rattle.em_inspect.specs.Ring.{is_adapters, octets_at, rx_ring, tx_ring}
use Rattle.em_inspect.specs.declared.ring.Side.{Side}
use Rattle.em_inspect.specs.declared.ring.Side.TheVariants.{Receive, Transmit}
use Rattle.em_inspect.specs.declared.ring.SidedRing.{SidedRing}
use Rattle.em_c.specs.declared.refused.Refused.{Refused}
use Rattle.em_c.specs.declared.refused.Refused.TheVariants.{NoRing, NoDescriptor, Range}
use Rattle.em_c.specs.declared.rings.EmRingSetup.{EmRingSetup}
use Rattle.em_c.specs.declared.rings.EmDescriptor.{EmDescriptor}

-- the receive ring is 1, and the transmit ring 2
abbrev pub sided : ℕ → View → Result SidedRing Refused
sided side v =
    if side == 1 then Ok (rx_ring v.present.profile (rx_setup v.present.registers))
    else if side == 2 then Ok (tx_ring v.present.profile (tx_setup v.present.registers))
    else Err NoRing

-- how many octets each buffer has, by the registers
abbrev pub buffer_of : Side → ℕ
buffer_of (Receive octets) = octets
buffer_of Transmit = 0

abbrev pub ring_told : SidedRing → EmRingSetup
ring_told r = record {
  base = r.setup.base;
  count = r.setup.count;
  head = r.setup.head;
  tail = r.setup.tail;
  buffer = buffer_of r.side;
  enabled = if r.setup.enabled then 1 else 0;
}

abbrev pub told_of : Result SidedRing Refused → Result EmRingSetup Refused
told_of (Ok r) = Ok (ring_told r)
told_of (Err refused) = Err refused

abbrev pub ring_in : ℕ → View → Result EmRingSetup Refused
ring_in side v = told_of (sided side v)

-- 1 where a descriptor is the adapter's: from the head up to but not the tail, going round
abbrev pub is_told : Ring → ℕ → ℕ
is_told r index = if is_adapters r index then 1 else 0

-- its octets, where it lies in guest memory, and whose it is
abbrev pub with_octets : Ring → ℕ → Option (List ℕ) → Result EmDescriptor Refused
with_octets r index None = Err Range
with_octets r index (Some octets) = Ok (record { octets = octets; adapters = is_told r index })

abbrev pub descriptor_of : ℕ → State → Result SidedRing Refused → Result EmDescriptor Refused
descriptor_of index s (Ok r) =
    if nat_lt index r.setup.count then with_octets r.setup index (octets_at r.setup s.base s.memory index)
    else Err NoDescriptor
descriptor_of index s (Err refused) = Err refused

abbrev pub descriptor_in : ℕ → ℕ → View → Result EmDescriptor Refused
descriptor_in side index v = descriptor_of index v.present (sided side v)
