-- What a word writes.
use Rattle.std.specs.Prelude.{ℕ, Bool, ◌==◌, ◌&&◌, if◌then◌else◌, List, [], ◌∷◌, length, slice_index}
use Rattle.std.specs.Prelude.{Option, option_map}
use Rattle.em_text.specs.Words.{words_of, read_first}
use Rattle.em_text.specs.Numbers.{hex_number, hex_address}
use Rattle.em_line.specs.Digits.{bare}

-- the number that 1 to 8 hexadecimal digits write, with `0x` before them or without
abbrev pub hex_number_in : List ℕ → Option ℕ
hex_number_in word = option_map (λ read. read.0) (read_first hex_number (words_of (bare word)))

-- the same of an address, in 1 to 16 digits
abbrev pub hex_address_in : List ℕ → Option ℕ
hex_address_in word = option_map (λ read. read.0) (read_first hex_address (words_of (bare word)))

-- an Ethernet address, as 52:54:00:12:34:56
abbrev pub is_address : List ℕ → Bool
is_address word = length word == 17
    && (slice_index word 2 == 58 && (slice_index word 5 == 58
    && (slice_index word 8 == 58 && (slice_index word 11 == 58 && slice_index word 14 == 58))))

-- its digits without the colons
abbrev pub address_digits : List ℕ → List ℕ
address_digits word = slice_index word 0 ∷ slice_index word 1 ∷ slice_index word 3 ∷ slice_index word 4
    ∷ slice_index word 6 ∷ slice_index word 7 ∷ slice_index word 9 ∷ slice_index word 10
    ∷ slice_index word 12 ∷ slice_index word 13 ∷ slice_index word 15 ∷ slice_index word 16 ∷ []

-- the digits of DATA: an Ethernet address may have its colons
abbrev pub data_digits : List ℕ → List ℕ
data_digits word = if is_address word then address_digits word else word
