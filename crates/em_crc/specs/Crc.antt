-- CRC-32, bit by bit (IEEE 802.3, clause 3, the frame check sequence).
use Rattle.std.specs.Prelude.{ℕ, ◌-◌, ◌/◌, ◌%◌, zero, suc, ◌==◌, if◌then◌else◌, List, [], ◌∷◌, ◌++◌, ◌≡◌, bit_xor}

-- the generating polynomial 04C11DB7 without x^32, with x^31 as bit 0 and x^0 as bit 31
abbrev pub generator : ℕ
generator = 0xEDB8_8320

-- the remainder after one bit more, with x^31 as bit 0: where the bit that leaves and the one that comes differ, the
-- generator is taken off
abbrev pub after_bit : ℕ → ℕ → ℕ
after_bit c b = if c % 2 == b then c / 2 else bit_xor (c / 2) generator

-- after several
abbrev pub after_bits : ℕ → List ℕ → ℕ
after_bits c [] = c
after_bits c (b ∷ bs) = after_bits (after_bit c b) bs

-- the lowest n bits of a number, the lowest first
abbrev pub low_bits : ℕ → ℕ → List ℕ
low_bits zero w = []
low_bits (suc n) w = w % 2 ∷ low_bits n (w / 2)

-- the bits of octets as they are sent: of each octet the lowest first
abbrev pub wire_bits : List ℕ → List ℕ
wire_bits [] = []
wire_bits (o ∷ os) = low_bits 8 o ++ wire_bits os

-- the remainder after one octet more
unfoldable pub after_octet : ℕ → ℕ → ℕ
after_octet c o = after_bits c (low_bits 8 o)

-- the check sequence: all ones to begin with, and complemented at the end
unfoldable pub crc32 : List ℕ → ℕ
crc32 os = 0xFFFF_FFFF - after_bits 0xFFFF_FFFF (wire_bits os)

-- the frame check sequence: four octets, the low one first
abbrev pub sequence : ℕ → List ℕ
sequence n = n % 256 ∷ n / 256 % 256 ∷ n / 65536 % 256 ∷ n / 16777216 % 256 ∷ []

-- a receiver, who takes the sequence in too, is always left with the same
abbrev pub LeavesResidue : Type 0
LeavesResidue = (os : List ℕ) → after_bits 0xFFFF_FFFF (wire_bits (os ++ sequence (crc32 os))) ≡ 0xDEBB_20E3
