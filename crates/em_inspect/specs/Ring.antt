-- Descriptor rings, and descriptors as they lie in guest memory.
use Rattle.std.specs.Prelude.{ℕ, ◌*◌, ◌&&◌, ◌||◌, nat_lt, nat_le, if◌then◌else◌, Bool, List, slice_index}
use Rattle.std.specs.Prelude.{Option, Some, None}
use Rattle.std.specs.Option.{option_map}
use Rattle.em_mem.specs.Memory.{leaves, part}
use Rattle.em_regs.specs.declared.profile.Profile.{Profile}
use Rattle.em_regs.specs.declared.setup.RxSetup.{RxSetup}
use Rattle.em_regs.specs.declared.setup.TxSetup.{TxSetup}
use Rattle.em_regs.specs.declared.ring.Ring.{Ring}
use Rattle.em_regs.specs.Ring as ring
use Rattle.em_regs.specs.Ring.{descriptor_at}
use Rattle.em_rx.specs.Descriptor.{RxDescriptor, descriptor_of}
use Rattle.em_tx.specs.Descriptor.{address, command, length_of}
use Rattle.em_inspect.specs.declared.ring.Side.{Side}
use Rattle.em_inspect.specs.declared.ring.Side.TheVariants.{Receive, Transmit}
use Rattle.em_inspect.specs.declared.ring.Owner.{Owner}
use Rattle.em_inspect.specs.declared.ring.Owner.TheVariants.{Adapter, Driver}
use Rattle.em_inspect.specs.declared.ring.SidedRing.{SidedRing}
use Rattle.em_inspect.specs.declared.descriptor.Bits.TheVariants.{Rx, Tx}
use Rattle.em_inspect.specs.declared.descriptor.Fields.{Fields}
use Rattle.em_inspect.specs.declared.extent.Extent.{Extent}

-- the receive ring that the registers set up
abbrev pub rx_ring : Profile → RxSetup → SidedRing
rx_ring p q = record { side = Receive q.buffer; setup = ring.rx_ring q; profile = p }

-- the transmit ring
abbrev pub tx_ring : Profile → TxSetup → SidedRing
tx_ring p q = record { side = Transmit; setup = ring.tx_ring q; profile = p }

-- descriptor i is the adapter's: from the head up to but not the tail, going round; none is where either stands past
-- the last descriptor
abbrev pub is_adapters : Ring → ℕ → Bool
is_adapters r i =
    (nat_lt r.head r.count && nat_lt r.tail r.count && nat_lt i r.count)
    && (if nat_le r.head r.tail then nat_le r.head i && nat_lt i r.tail else nat_le r.head i || nat_lt i r.tail)

abbrev pub owner_of : Ring → ℕ → Owner
owner_of r i = if is_adapters r i then Adapter else Driver

-- where all of them lie
abbrev pub extent_of : Ring → Extent
extent_of r = record { at = r.base; size = 16 * r.count }

-- the octets of descriptor i in guest memory; none where it leaves it
abbrev pub octets_at : Ring → ℕ → List ℕ → ℕ → Option (List ℕ)
octets_at r base memory i =
    if leaves base memory (descriptor_at r i) 16 then None else Some (part memory (descriptor_at r i) 16)

abbrev pub rx_fields : RxDescriptor → Fields
rx_fields d = record { buffer = d.address; length = d.length; bits = Rx d.status d.errors }

-- what a descriptor's octets say
abbrev pub fields_in : Side → List ℕ → Fields
fields_in (Receive size) octets = rx_fields (descriptor_of octets)
fields_in Transmit octets = record {
  buffer = address octets;
  length = length_of octets;
  bits = Tx (command octets) (slice_index octets 12);
}

-- what descriptor i says
abbrev pub fields_at : SidedRing → ℕ → List ℕ → ℕ → Option Fields
fields_at r base memory i = option_map (fields_in r.side) (octets_at r.setup base memory i)
