-- What is wrong with a descriptor.
use Rattle.std.specs.Prelude.{ℕ, ◌==◌, ◌&&◌, nat_lt, not, if◌then◌else◌, Bool, true, false, List, find}
use Rattle.std.specs.Prelude.{Option, Some, None}
use Rattle.std.specs.Option.{option_map, option_map_or}
use Rattle.std.specs.List.{range_with_len}
use Rattle.em_mem.specs.Memory.{leaves}
use Rattle.em_regs.specs.declared.ring.Ring.{Ring}
use Rattle.em_regs.specs.Setup.{bit}
use Rattle.em_rx.specs.Control.{is_null_at}
use Rattle.em_inspect.specs.declared.ring.Side.{Side}
use Rattle.em_inspect.specs.declared.ring.Side.TheVariants.{Receive, Transmit}
use Rattle.em_inspect.specs.declared.ring.Owner.{Owner}
use Rattle.em_inspect.specs.declared.ring.Owner.TheVariants.{Adapter, Driver}
use Rattle.em_inspect.specs.declared.ring.SidedRing.{SidedRing}
use Rattle.em_inspect.specs.declared.descriptor.Bits.{Bits}
use Rattle.em_inspect.specs.declared.descriptor.Bits.TheVariants.{Rx, Tx}
use Rattle.em_inspect.specs.declared.descriptor.Fields.{Fields}
use Rattle.em_inspect.specs.declared.descriptor.Descriptor.{Descriptor}
use Rattle.em_inspect.specs.declared.extent.Extent.{Extent}
use Rattle.em_inspect.specs.declared.trouble.Trouble.{Trouble}
use Rattle.em_inspect.specs.declared.trouble.Trouble.TheVariants.{
  Outside,
  Extended,
  NoLength,
  TooLong,
  BufferOutside,
  OverRing,
  OverBuffer,
}
use Rattle.em_inspect.specs.Extent.{overlaps}
use Rattle.em_regs.specs.Ring.{descriptor_at}
use Rattle.em_inspect.specs.Ring.{extent_of, fields_at, is_adapters, owner_of}

-- DEXT, bit 5 of a transmit descriptor's command: the extended format
abbrev pub is_extended : Bits → Bool
is_extended (Rx status errors) = false
is_extended (Tx command status) = bit command 5

-- the adapter will use a descriptor's buffer, or has written to it (DD, bit 0 of a receive descriptor's status) and the
-- driver has not taken it
abbrev pub is_live : Owner → Bits → Bool
is_live Adapter bits = true
is_live Driver (Rx status errors) = bit status 0
is_live Driver (Tx command status) = false

-- how many octets a descriptor's buffer has
abbrev pub size_of : Side → Fields → ℕ
size_of (Receive size) f = size
size_of Transmit f = f.length

abbrev pub buffer_of : Side → Fields → Extent
buffer_of side f = record { at = f.buffer; size = size_of side f }

-- no octet goes into a descriptor's buffer or out of it, by its address: in the second profile
abbrev pub is_null : SidedRing → Fields → Bool
is_null r f = is_null_at r.profile f.buffer

-- a descriptor has a buffer
abbrev pub has_buffer : SidedRing → Fields → Bool
has_buffer r f = not (is_extended f.bits) && not (is_null r f)

-- the buffer of descriptor i, where that is live and has one
abbrev pub claimed : SidedRing → ℕ → Fields → Option Extent
claimed r i f = if is_live (owner_of r.setup i) f.bits && has_buffer r f then Some (buffer_of r.side f) else None

abbrev pub claim_in : SidedRing → ℕ → Option Fields → Option Extent
claim_in r i None = None
claim_in r i (Some f) = claimed r i f

abbrev pub claim_of : SidedRing → ℕ → List ℕ → ℕ → Option Extent
claim_of r base memory i = claim_in r i (fields_at r base memory i)

-- the driver has taken the frame of one of descriptors i and j, and posted its buffer again as the other's: they name
-- the same buffer, and not both are the adapter's
abbrev pub is_posted_again : Ring → ℕ → Extent → ℕ → Extent → Bool
is_posted_again r i a j b = a.at == b.at && not (is_adapters r i && is_adapters r j)

-- their buffers have an octet in common, and not since one was posted again
abbrev pub clash : Ring → ℕ → Extent → ℕ → Extent → Bool
clash r i a j b = overlaps a b && not (is_posted_again r i a j b)

-- descriptor j is another one than i, whose buffer lies over this one
abbrev pub is_over : SidedRing → ℕ → List ℕ → ℕ → Extent → ℕ → Bool
is_over r base memory i buffer j =
    if j == i then false else option_map_or (clash r.setup i buffer j) (claim_of r base memory j) false

-- the lowest such
abbrev pub lowest_over : SidedRing → ℕ → List ℕ → ℕ → Extent → Option ℕ
lowest_over r base memory i buffer = find (is_over r base memory i buffer) (range_with_len 0 r.setup.count)

-- ---- in the order in which they are told

-- what a transmit descriptor's length has against it
abbrev pub length_trouble : ℕ → Option Trouble
length_trouble n = if n == 0 then Some NoLength else if nat_lt 16380 n then Some TooLong else None

-- what its format and its length have, by whether it has octets
abbrev pub sent_trouble : Bool → Fields → Option Trouble
sent_trouble null f = if is_extended f.bits then Some Extended else if null then None else length_trouble f.length

abbrev pub format_trouble : Side → Bool → Fields → Option Trouble
format_trouble (Receive size) null f = None
format_trouble Transmit null f = sent_trouble null f

-- what is wrong with the buffer of descriptor i
abbrev pub buffer_trouble : SidedRing → ℕ → List ℕ → ℕ → Extent → Option Trouble
buffer_trouble r base memory i buffer =
    if leaves base memory buffer.at buffer.size then Some BufferOutside
    else if overlaps buffer (extent_of r.setup) then Some OverRing
    else option_map OverBuffer (lowest_over r base memory i buffer)

-- the first, or else the second
abbrev pub or_else : Option Trouble → Option Trouble → Option Trouble
or_else None trouble = trouble
or_else (Some trouble) _ = Some trouble

-- what is wrong with a live descriptor
abbrev pub live_trouble : SidedRing → ℕ → List ℕ → ℕ → Fields → Option Trouble
live_trouble r base memory i f =
    or_else (format_trouble r.side (is_null r f) f)
    (if is_null r f then None else buffer_trouble r base memory i (buffer_of r.side f))

abbrev pub trouble_in : SidedRing → ℕ → List ℕ → ℕ → Option Fields → Option Trouble
trouble_in r base memory i None = Some Outside
trouble_in r base memory i (Some f) =
    if is_live (owner_of r.setup i) f.bits then live_trouble r base memory i f else None

-- what is wrong with descriptor i first
abbrev pub trouble_of : SidedRing → ℕ → List ℕ → ℕ → Option Trouble
trouble_of r base memory i = trouble_in r base memory i (fields_at r base memory i)

-- descriptor i
abbrev pub descriptor_in : SidedRing → ℕ → List ℕ → ℕ → Descriptor
descriptor_in r base memory i = record {
  index = i;
  address = descriptor_at r.setup i;
  owner = owner_of r.setup i;
  is_head = i == r.setup.head;
  is_tail = i == r.setup.tail;
  fields = fields_at r base memory i;
  trouble = trouble_of r base memory i;
}
