-- Linux's cooked packets, which a capture of all interfaces has in the place of frames, and the Ethernet frames that
-- they were. The fields of their headers have the highest octet first.
use Rattle.std.specs.Prelude.{ℕ, ◌+◌, ◌-◌, ◌/◌, ◌%◌, ◌==◌, ◌&&◌, ◌||◌, nat_lt, nat_le, if◌then◌else◌}
use Rattle.std.specs.Prelude.{List, [], ◌∷◌, ◌++◌, length, take, drop, slice_index, Option, Some, None, option_map}
use Rattle.em_pcap.specs.declared.order.Order.TheVariants.{Big}
use Rattle.em_pcap.specs.declared.cooked.Cooking.{Cooking}
use Rattle.em_pcap.specs.declared.cooked.Cooking.TheVariants.{Sll, Sll2}
use Rattle.em_pcap.specs.declared.cooked.Cooked.{Cooked}
use Rattle.em_pcap.specs.declared.form.Found.{Found}
use Rattle.em_pcap.specs.declared.form.Step.{Step}
use Rattle.em_pcap.specs.declared.form.Step.TheVariants.{Gives, Skips}
use Rattle.em_pcap.specs.Fields.{u16}

-- ---- the headers

-- LINKTYPE_LINUX_SLL and LINKTYPE_LINUX_SLL2
abbrev pub cooking_of : ℕ → Option Cooking
cooking_of link = if link == 113 then Some Sll else if link == 276 then Some Sll2 else None

abbrev pub header_len : Cooking → ℕ
header_len Sll = 16
header_len Sll2 = 20

-- six octets from a place on
abbrev pub six : ℕ → List ℕ → List ℕ
six at octets =
    slice_index octets at ∷ slice_index octets (at + 1) ∷ slice_index octets (at + 2) ∷ slice_index octets (at + 3)
    ∷ slice_index octets (at + 4) ∷ slice_index octets (at + 5) ∷ []

-- packet type, ARPHRD_ type, address length, address, protocol type; and protocol type, reserved, interface index,
-- ARPHRD_ type, packet type, address length, address
abbrev pub cooked_in : Cooking → List ℕ → Cooked
cooked_in Sll packet = record {
  way = u16 Big 0 packet;
  hardware = u16 Big 2 packet;
  address_len = u16 Big 4 packet;
  address = six 6 packet;
  protocol = u16 Big 14 packet;
}
cooked_in Sll2 packet = record {
  way = slice_index packet 10;
  hardware = u16 Big 8 packet;
  address_len = slice_index packet 11;
  address = six 12 packet;
  protocol = u16 Big 0 packet;
}

-- ---- the Ethernet header

-- the least number that is a type; one below is a length
abbrev pub least_type : ℕ
least_type = 0x600

-- the type or length of a frame with so many octets behind it: of ETH_P_802_3 and ETH_P_802_2 their number, and none of
-- what is no protocol of Ethernet
abbrev pub type_of : ℕ → ℕ → Option ℕ
type_of protocol behind =
    if nat_le least_type protocol then Some protocol
    else if (protocol == 1 || protocol == 4) && nat_lt behind least_type then Some behind
    else None

-- the group of a packet of IPv4 or IPv6, by its destination; of another one it is not known
abbrev pub group_of : ℕ → List ℕ → List ℕ
group_of protocol octets =
    if protocol == 0x0800 && nat_le 20 (length octets)
    then 0x01 ∷ 0x00 ∷ 0x5E ∷ (slice_index octets 17 % 128) ∷ slice_index octets 18 ∷ slice_index octets 19 ∷ []
    else if protocol == 0x86DD && nat_le 40 (length octets)
    then 0x33 ∷ 0x33 ∷ slice_index octets 36 ∷ slice_index octets 37 ∷ slice_index octets 38 ∷ slice_index octets 39
    ∷ []
    else 0x01 ∷ 0x00 ∷ 0x00 ∷ 0x00 ∷ 0x00 ∷ 0x00 ∷ []

-- PACKET_HOST, PACKET_BROADCAST, PACKET_MULTICAST; where it went otherwise is not known
abbrev pub destination : List ℕ → ℕ → ℕ → List ℕ → List ℕ
destination own way protocol octets =
    if way == 0 then own
    else if way == 1 then 0xFF ∷ 0xFF ∷ 0xFF ∷ 0xFF ∷ 0xFF ∷ 0xFF ∷ []
    else if way == 2 then group_of protocol octets
    else 0x02 ∷ 0x00 ∷ 0x00 ∷ 0x00 ∷ 0x00 ∷ 0x00 ∷ []

-- two addresses, and a type or length
unfoldable pub ethernet_header : List ℕ → List ℕ → ℕ → List ℕ
ethernet_header to from kind = six 0 to ++ (six 0 from ++ kind / 256 ∷ kind % 256 ∷ [])

-- of a packet of an Ethernet interface; ARPHRD_ETHER has addresses of six octets
abbrev pub header_of : List ℕ → Cooked → List ℕ → ℕ → Option (List ℕ)
header_of own cooked octets behind =
    if cooked.hardware == 1 && cooked.address_len == 6
    then option_map (ethernet_header (destination own cooked.way cooked.protocol octets) cooked.address)
    (type_of cooked.protocol behind)
    else None

-- the header of the frame that a packet was which had so many octets, if its own was captured whole
unfoldable pub uncooked_header : Cooking → List ℕ → List ℕ → ℕ → Option (List ℕ)
uncooked_header cooking own packet original =
    if nat_le (header_len cooking) (length packet) && nat_le (header_len cooking) original
    then header_of own (cooked_in cooking packet) (drop (header_len cooking) packet) (original - header_len cooking)
    else None

-- ---- the frame

-- what was no frame is passed over
abbrev pub with_header : Cooking → Found → Option (List ℕ) → Step
with_header cooking found None = Skips found.len
with_header cooking found (Some header) = Gives (record {
  len = found.len;
  at = found.at + header_len cooking;
  captured = found.captured - header_len cooking;
  original = 14 + (found.original - header_len cooking);
  time = found.time;
  header = Some header;
})

-- a packet in these octets as the frame that it was
abbrev pub uncooked_step : Cooking → List ℕ → List ℕ → Found → Step
uncooked_step cooking own octets found =
    with_header cooking found
    (uncooked_header cooking own (take found.captured (drop found.at octets)) found.original)
