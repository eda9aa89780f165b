-- A frame as it is sent: with its VLAN tag, and with_padding.
use Rattle.std.specs.Prelude.{
  ℕ,
  ◌+◌,
  ◌-◌,
  ◌&&◌,
  nat_le,
  nat_lt,
  max,
  Bool,
  List,
  ◌++◌,
  length,
  take,
  drop,
  replicate,
  if◌then◌else◌,
  Option,
  Some,
  None,
  is_some,
}
use Rattle.byteorder.specs.Endian.{big_bytes}
use Rattle.em_regs.specs.declared.setup.TxSetup.{TxSetup}
use Rattle.em_address.specs.declared.kind.Kind.{Kind}
use Rattle.em_address.specs.declared.kind.Kind.TheVariants.{Unicast}
use Rattle.em_address.specs.Kind.{destination, kind_of}
use Rattle.em_tx.specs.Descriptor.{special, vle}

-- the tag of n octets: VET and the descriptor's special, of each the higher octet first; none where VME is clear,
-- where the descriptor has no VLE, or where fewer than 12 octets are gathered
abbrev pub tag_of : Option ℕ → List ℕ → ℕ → Option (List ℕ)
tag_of None d n = None
tag_of (Some vet) d n = if vle d && nat_le 12 n then Some (big_bytes 2 vet ++ big_bytes 2 (special d)) else None

-- a tag lies after octet 11
abbrev pub with_tag : Option (List ℕ) → List ℕ → List ℕ
with_tag None octets = octets
with_tag (Some tag) octets = take 12 octets ++ (tag ++ drop 12 octets)

-- zero octets are added up to 60
abbrev pub with_padding : Bool → List ℕ → List ℕ
with_padding pad octets = if pad then octets ++ replicate (60 - length octets) 0 else octets

-- the gathered octets as they are sent: the tag first, then the padding
unfoldable pub frame : TxSetup → List ℕ → List ℕ → List ℕ
frame q d octets = with_padding q.pad (with_tag (tag_of q.vlan d (length octets)) octets)

-- the kind of the destination of a sent frame; one that is too short for a destination counts as unicast
unfoldable pub kind_sent : List ℕ → Kind
kind_sent f = if nat_lt (length f) 6 then Unicast else kind_of (destination f)

-- how many octets a frame of n gathered ones has
abbrev pub frame_len : TxSetup → List ℕ → ℕ → ℕ
frame_len q d n =
    let tagged = if is_some (tag_of q.vlan d n) then n + 4 else n in
    if q.pad then max tagged 60 else tagged

-- a frame without its tag
abbrev pub without_tag : Bool → List ℕ → List ℕ
without_tag tagged f = if tagged then take 12 f ++ drop 16 f else f
