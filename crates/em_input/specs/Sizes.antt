-- Numbers as the words of a command line have them: decimal digits, and of octets K, M or G behind them.
use Rattle.std.specs.Prelude.{◌≡◌, ℕ, ◌-◌, ◌*◌, ◌<◌, ◌^◌, ◌==◌, ◌||◌, if◌then◌else◌, List, length, slice_index, take}
use Rattle.std.specs.Str.Parse.{IsNumeral, digits_value, without_leading_plus}

-- decimal digits write a number of 64 bits; a plus may stand before them
pub record IsNumber (word : List ℕ) (number : ℕ) : Type 0 where
  pub digits : IsNumeral 10 (without_leading_plus word)
  pub value : number ≡ digits_value 10 (without_leading_plus word)
  pub small : number < 2 ^ 64

-- the last octet of a word
abbrev pub last_of : List ℕ → ℕ
last_of word = slice_index word (length word - 1)

-- how many octets a letter stands for that is K, M or G, in either case; no other octet stands for more than one
abbrev pub unit_of : ℕ → ℕ
unit_of letter =
    if letter == 75 || letter == 107 then 1024 else
    if letter == 77 || letter == 109 then 1_048_576 else
    if letter == 71 || letter == 103 then 1_073_741_824 else
    1

-- a word without such a letter at its end
abbrev pub digits_in : List ℕ → List ℕ
digits_in word = if unit_of (last_of word) == 1 then word else take (length word - 1) word

-- a word says so many octets, of 64 bits
pub record IsSize (word : List ℕ) (size : ℕ) : Type 0 where
  pub number : ℕ
  pub is : IsNumber (digits_in word) number
  pub value : size ≡ number * unit_of (last_of word)
  pub small : size < 2 ^ 64
