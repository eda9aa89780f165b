-- Numbers as programs print them.
use Rattle.std.specs.Prelude.{ℕ, Bool, false, ◌==◌, ◌&&◌, ◌||◌, if◌then◌else◌, List, ◌∷◌, Option, None, option_map}
use Rattle.em_text.specs.Numbers.{decimal_number, hex_address}
use Rattle.em_text.specs.Words.{words_of, read_first}

-- a word begins with `0x`
abbrev pub is_hex : List ℕ → Bool
is_hex (a ∷ b ∷ digits) = a == 48 && (b == 120 || b == 88)
is_hex _ = false

-- the number that 1 to 16 hexadecimal digits write
abbrev pub first_hex : List ℕ → Option ℕ
first_hex digits = option_map (λ read. read.0) (read_first hex_address (words_of digits))

-- the number that such digits behind `0x` write
abbrev pub hex_in : List ℕ → Option ℕ
hex_in (a ∷ b ∷ digits) = if a == 48 && (b == 120 || b == 88) then first_hex digits else None
hex_in _ = None

-- that, or the number that 1 to 7 decimal digits write
abbrev pub number_in : List ℕ → Option ℕ
number_in word = if is_hex word then hex_in word else decimal_number word
