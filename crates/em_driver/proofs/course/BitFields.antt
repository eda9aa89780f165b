-- Bits and fields of a number, by their masks.
use Rattle.std.proofs.Common.{◌≡◌, ℕ, ◌*◌, ◌/◌, ◌%◌}
use Rattle.std.specs.Prelude.{bit_and}
use Rattle.std.proofs.lemmas.Nat.Bits.{and_pow, and_high}

-- bit 1
pub second_bit : (n : ℕ) → bit_and n 0x02 ≡ n / 2 % 2 * 2
second_bit n = and_pow n 1

-- bits 7:6
pub speed_field : (n : ℕ) → bit_and n 0xC0 ≡ n / 64 % 4 * 64
speed_field n = and_high n 2 6
