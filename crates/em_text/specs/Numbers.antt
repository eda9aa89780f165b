-- The numbers and the octets that words write.
use Rattle.std.specs.Prelude.{ℕ, ◌≡◌, ◌+◌, ◌-◌, ◌*◌, ◌<◌, ◌≤◌, ◌^◌, ◌⊎◌, ◌&&◌, ◌++◌}
use Rattle.std.specs.Prelude.{nat_lt, nat_le, replicate, slice_index}
use Rattle.std.specs.Prelude.{if◌then◌else◌, List, length, take, get_or, true, false, Option, Some, None}
use Rattle.std.specs.List.{list_all, prefix_len}
use Rattle.std.specs.Char.{is_digit, digit_value}
use Rattle.std.specs.Result.{result_ok}
use Rattle.std.specs.Str.Parse.{digits_value}
use Rattle.hex.specs.Hex.{decode_of}
use Rattle.em_text.specs.Words.{is_blank}

-- the number that one to `most` digits in this base write
unfoldable pub number : ℕ → ℕ → List ℕ → Option ℕ
number base most word =
    if (nat_le 1 (length word) && nat_le (length word) most) && list_all (λ octet. is_digit octet base) word
    then Some (digits_value base word)
    else None

-- OFF, VAL and the like: 1 to 8 hexadecimal digits
abbrev pub hex_number : List ℕ → Option ℕ
hex_number word = number 16 8 word

-- an address: 1 to 16 hexadecimal digits
abbrev pub hex_address : List ℕ → Option ℕ
hex_address word = number 16 16 word

-- 1 to 7 decimal digits
abbrev pub decimal_number : List ℕ → Option ℕ
decimal_number word = number 10 7 word

-- the octets that an even number of hexadecimal digits write, two digits or more
unfoldable pub octets_of : List ℕ → Option (List ℕ)
octets_of word = if nat_lt 0 (length word) then result_ok (decode_of word) else None

-- these octets, and zero octets behind them up to n octets
abbrev pub with_zeros : ℕ → List ℕ → List ℕ
with_zeros n octets = octets ++ replicate (n - length octets) 0

-- ---- pairs of digits

-- pair k of a text is of hexadecimal digits that write this octet
pub record IsPair (text : List ℕ) (k octet : ℕ) : Type 0 where
  pub high : digit_value (slice_index text (2 * k)) < 16
  pub low : digit_value (slice_index text (2 * k + 1)) < 16
  pub value : octet ≡ digit_value (slice_index text (2 * k)) * 16 + digit_value (slice_index text (2 * k + 1))

-- the octets from one place to another are those that the pairs of a text write there
abbrev pub ArePairs : List ℕ → List ℕ → ℕ → ℕ → Type 0
ArePairs text octets from to = (k : ℕ) → from ≤ k → k < to → IsPair text k (slice_index octets k)

-- ---- at the front of a text

-- how many digits in this base a text begins with
abbrev pub digits_len : ℕ → List ℕ → ℕ
digits_len base text = prefix_len (λ octet. is_digit octet base) text

-- so many digits are none or too many
abbrev pub IsNoLength : ℕ → ℕ → Type 0
IsNoLength most len = (len ≡ 0) ⊎ (most < len)

-- a text that begins with no number: with none or too many of them, or an octet behind them that is no blank
abbrev pub IsNoNumber : ℕ → ℕ → List ℕ → Type 0
IsNoNumber base most text =
    let len = digits_len base text in
    IsNoLength most len ⊎ ((len < length text) × (is_blank (get_or text len 0) ≡ false))

-- the digits that a text begins with are so many, at most `most`, and write this number; a blank follows, or the end
pub record LeadingNumber (base most : ℕ) (text : List ℕ) (value len : ℕ) : Type 0 where
  pub digits : len ≡ digits_len base text
  pub some : 0 < len
  pub short : len ≤ most
  pub within : len ≤ length text
  pub number : value ≡ digits_value base (take len text)
  pub bound : value < base ^ most
  pub end : len < length text → is_blank (get_or text len 0) ≡ true
