-- The descriptors that a driver reads and writes: 16 octets of memory, of each number the lowest octet first.
use Rattle.std.specs.Prelude.{ℕ, ◌/◌, ◌%◌, ◌==◌, nat_lt, nat_le, ◌&&◌, Bool, List, [], ◌∷◌, ◌++◌, drop, slice_index}
use Rattle.byteorder.specs.Endian.{little_bytes, little_number}

-- how many octets a receive descriptor says that its buffer has: octets 8 and 9
unfoldable pub length_of : List ℕ → ℕ
length_of d = little_number 2 (drop 8 d)

-- its status, octet 12, has DD: the adapter wrote it back
unfoldable pub is_done : List ℕ → Bool
is_done d = slice_index d 12 % 2 == 1

-- its status has EOP: the buffer has the last octet of the frame
unfoldable pub is_last : List ℕ → Bool
is_last d = slice_index d 12 / 2 % 2 == 1

-- it has a whole packet, as a buffer of 2,048 octets can
abbrev pub is_whole : List ℕ → Bool
is_whole d = is_last d && (nat_lt 0 (length_of d) && nat_le (length_of d) 2048)

-- the transmit descriptor of a whole packet: its address and length, CSO 0, CMD with EOP, IFCS and RS, STA, CSS and
-- special 0
abbrev pub transmit_descriptor : ℕ → ℕ → List ℕ
transmit_descriptor address len = little_bytes 8 address ++ little_bytes 2 len ++ 0 ∷ 0x0B ∷ 0 ∷ 0 ∷ 0 ∷ 0 ∷ []
