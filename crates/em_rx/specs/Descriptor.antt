-- A receive descriptor: 16 octets of guest memory, each number with its lowest octet first.
use Rattle.std.specs.Prelude.{ℕ, ◌/◌, ◌%◌, Bool, true, false, if◌then◌else◌, List, [], ◌∷◌, drop, set, slice_index}
use Rattle.std.specs.Prelude.{Option, Some, None, bit_or}
use Rattle.byteorder.specs.Endian.{little_number}

pub record RxDescriptor : Type 0 where
  pub address : ℕ
  pub length : ℕ
  pub checksum : ℕ
  pub status : ℕ
  pub errors : ℕ
  pub special : ℕ

-- the descriptor that 16 octets are
abbrev pub descriptor_of : List ℕ → RxDescriptor
descriptor_of octets = record {
  address = little_number 8 octets;
  length = little_number 2 (drop 8 octets);
  checksum = little_number 2 (drop 10 octets);
  status = slice_index octets 12;
  errors = slice_index octets 13;
  special = little_number 2 (drop 14 octets);
}

-- the status that a piece of a frame is given: DD and IXSM, with the last octet EOP, and then VP for a tag and PIF for a
-- frame that no exact filter takes
abbrev pub status_of : Bool → Bool → Option ℕ → ℕ
status_of false inexact tag = 0x05
status_of true inexact None = if inexact then 0x87 else 0x07
status_of true inexact (Some tag) = if inexact then 0x8F else 0x0F

-- the special field: the tag, with the last octet of a frame that has one
abbrev pub special_of : Bool → Option ℕ → ℕ
special_of false tag = 0
special_of true None = 0
special_of true (Some tag) = tag

-- octets 8 to 15 for a piece of n octets: n, checksum 0, the status, errors 0, the special field
abbrev pub written_back : ℕ → Bool → Bool → Option ℕ → List ℕ
written_back n last inexact tag =
    n % 256 ∷ n / 256 ∷ 0 ∷ 0 ∷ status_of last inexact tag ∷ 0 ∷ special_of last tag % 256 ∷ special_of last tag / 256 ∷ []

-- octets 8 to 15 of a descriptor that takes no octets: DD is set, and all others stay
abbrev pub marked_done : List ℕ → List ℕ
marked_done octets = set octets 4 (bit_or (slice_index octets 4) 0x01)
