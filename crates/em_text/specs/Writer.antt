-- What a text that is written leaves in a writer, and the texts of octets and numbers.
use Rattle.std.specs.Prelude.{ℕ, ◌≡◌, ◌*◌, ◌<◌, List, ◌++◌, length, take, drop, Option, Result, MatchResult, codes, decimal}
use Rattle.std.specs.Int.{w32, to_be_bytes}
use Rattle.std.specs.Io.KnownBytes.{Appends}
use Rattle.hex.specs.Hex.{encode_upper}

-- a front of the text was written, and not all of it
pub record WritesPart (old new : Option (List ℕ)) (text : List ℕ) : Type 0 where
  pub octets : ℕ
  pub part : octets < length text
  pub written : Appends old new (take octets text)

-- on `Ok` the text was written, on `Err` a front of it that is not all of it
abbrev pub Writes : {T E : Type 0} → Option (List ℕ) → Option (List ℕ) → Result T E → List ℕ → Type 0
Writes old new result text = MatchResult result (λ _. Appends old new text) (λ _. WritesPart old new text)

-- octets in upper case digits, two for each
abbrev pub hex_text : List ℕ → List ℕ
hex_text octets = encode_upper octets

-- the digits of the first so many octets stand at the front of a text
abbrev pub AreDigits : List ℕ → List ℕ → ℕ → Type 0
AreDigits octets digits count = take (2 * count) digits ++ hex_text (drop count octets) ≡ hex_text octets

-- a line of octets
abbrev pub hex_line_text : List ℕ → List ℕ
hex_line_text octets = hex_text octets ++ codes "\n"

-- a value in 8 digits
abbrev pub value_digits : ℕ → List ℕ
value_digits value = hex_text (to_be_bytes w32 value)

-- a line of a value
abbrev pub value_text : ℕ → List ℕ
value_text value = value_digits value ++ codes "\n"

-- a line of a register: its offset in 5 digits, a space, and its value
abbrev pub register_line_text : ℕ → ℕ → List ℕ
register_line_text offset value = drop 3 (value_digits offset) ++ codes " " ++ value_text value

-- a number in decimal digits
abbrev pub decimal_text : ℕ → List ℕ
decimal_text number = decimal number

-- a line of a number
abbrev pub decimal_line_text : ℕ → List ℕ
decimal_line_text number = decimal_text number ++ codes "\n"

-- two numbers in decimal digits with a space between them, behind a word and before an end
abbrev pub numbers_text : List ℕ → ℕ → ℕ → List ℕ → List ℕ
numbers_text word first second end =
    word ++ (decimal_text first ++ (codes " " ++ (decimal_text second ++ end)))
