-- Digits, hexadecimal and decimal: what they write, and that they are quiet octets and no blanks.
use Rattle.std.proofs.Common.{◌≡◌, ℕ, zero, suc, ◌+◌, ◌/◌, ◌%◌, ◌^◌, ◌<◌, ◌≤◌, Bool, true, false, List, [], ◌∷◌}
use Rattle.std.proofs.Common.{◌-◌, length, subst, ap, ◌∙◌, refl, arith, inl, inr, Some}
use Rattle.std.specs.Prelude.{◌==◌, ◌&&◌, not, if◌then◌else◌, slice_index, decimal}
use Rattle.std.specs.List.{All, list_all}
use Rattle.std.specs.Char.{digit_value, is_digit}
use Rattle.std.specs.Fmt.{digit_glyph, digits_onto}
use Rattle.std.specs.Str.Parse.{AllDigits}
use Rattle.std.specs.Result.{result_ok}
use Rattle.std.specs.Int.{bytes_high_first, byte_at}
use Rattle.std.proofs.DigitsParse.{digits_onto-nil}
use Rattle.std.proofs.lemmas.Bool.{and_parts, cases_eq, eq-eqb, eqb-true, lt-ltb, ne_eqb, not-true}
use Rattle.std.proofs.lemmas.Fmt.{decimal_is_IsNumeral, digits_is_IsNumeral, length-decimal-le}
use Rattle.std.proofs.lemmas.Str.Parse.{digit_from_value}
use Rattle.hex.specs.Hex.{IsBytes, upper_digits, encode_with}
use Rattle.hex.proofs.HexLemmas.{decode_of-encode_upper, length-encode_with}
use Rattle.em_text.specs.Words.{is_blank}
use Rattle.em_text.specs.Numbers.{decimal_number, number, octets_of}
use Rattle.em_text.specs.Writer.{hex_text}
use Rattle.em_text.proofs.NumbersLemmas.{number-good, octets_of-some}
use Rattle.em_kept.specs.Digits.{number_digits}
use Rattle.em_kept.proofs.DigitSteps.{longer}
use Rattle.em_kept.proofs.PartsOfLines.{is_quiet}

-- ---- one digit

-- an upper case digit has its value, is a digit, no blank, and quiet; it is written so too where zeros are left out
abbrev is_well : ℕ → Bool
is_well d =
    digit_value (slice_index upper_digits d) == d
    && (is_digit (slice_index upper_digits d) 16
    && (not (is_blank (slice_index upper_digits d))
    && (is_quiet (slice_index upper_digits d) && slice_index upper_digits d == digit_glyph true d)))

abbrev are_well : ℕ → Bool
are_well zero = true
are_well (suc n) = is_well n && are_well n

well_below : (n d : ℕ) → are_well n ≡ true → d < n → is_well d ≡ true
well_below zero d h lt = absurd (omega arith)
well_below (suc n) d h lt = elim (cases_eq d n) [
  | inl is ↦ ap is_well is ∙ (and_parts (is_well n) (are_well n) h).0
  | inr other ↦ well_below n d (and_parts (is_well n) (are_well n) h).1 (omega (arith, other))
]

record IsWell (d : ℕ) : Type 0 where
  value : digit_value (slice_index upper_digits d) ≡ d
  digit : is_digit (slice_index upper_digits d) 16 ≡ true
  solid : is_blank (slice_index upper_digits d) ≡ false
  quiet : is_quiet (slice_index upper_digits d) ≡ true
  glyph : slice_index upper_digits d ≡ digit_glyph true d

well : (d : ℕ) → d < 16 → IsWell d
well d lt =
    let all = and_parts _ _ (well_below 16 d refl lt) in
    let more = and_parts _ _ all.1 in
    let less = and_parts _ _ more.1 in
    let last = and_parts _ _ less.1 in
    record {
      value = eqb-true _ d all.0;
      digit = more.0;
      solid = not-true _ less.0;
      quiet = last.0;
      glyph = eqb-true _ (digit_glyph true d) last.1;
    }

-- ---- texts of octets

all_digits : (xs : List ℕ) → IsBytes xs → list_all (λ octet. is_digit octet 16) (hex_text xs) ≡ true
unfolding encode_with
all_digits [] h = refl
all_digits (x ∷ xs) h =
    let fits : x < 256 = h 0 in
    rw ((well (x / 16) (omega arith)).digit, (well (x % 16) (omega arith)).digit)
    (all_digits xs (λ k. h (suc k)))

pub no_blank : (xs : List ℕ) → IsBytes xs → All (λ x. is_blank x ≡ false) (hex_text xs)
unfolding encode_with
no_blank [] h k d lt = absurd (omega arith)
no_blank (x ∷ xs) h zero d lt = let fits : x < 256 = h 0 in (well (x / 16) (omega arith)).solid
no_blank (x ∷ xs) h (suc zero) d lt = let fits : x < 256 = h 0 in (well (x % 16) (omega arith)).solid
no_blank (x ∷ xs) h (suc (suc k)) d lt = no_blank xs (λ k. h (suc k)) k d (omega arith)

pub quiet_hex : (xs : List ℕ) → IsBytes xs → All (λ x. is_quiet x ≡ true) (hex_text xs)
unfolding encode_with
quiet_hex [] h k d lt = absurd (omega arith)
quiet_hex (x ∷ xs) h zero d lt = let fits : x < 256 = h 0 in (well (x / 16) (omega arith)).quiet
quiet_hex (x ∷ xs) h (suc zero) d lt = let fits : x < 256 = h 0 in (well (x % 16) (omega arith)).quiet
quiet_hex (x ∷ xs) h (suc (suc k)) d lt = quiet_hex xs (λ k. h (suc k)) k d (omega arith)

pub some_hex : (xs : List ℕ) → 0 < length xs → 0 < length (hex_text xs)
some_hex xs some = omega (arith, some, length-encode_with upper_digits xs)

-- digits of octets write these
pub octets_of_hex : (xs : List ℕ) → IsBytes xs → 0 < length xs → octets_of (hex_text xs) ≡ Some xs
octets_of_hex xs h some =
    let len = length-encode_with upper_digits xs in
    octets_of-some (hex_text xs) (omega (arith, len)) ∙ ap result_ok (decode_of-encode_upper xs h)

-- ---- numbers as octets

byte_fits : (i n : ℕ) → byte_at i n < 256
byte_fits zero n = omega arith
byte_fits (suc i) n = omega arith

pub bytes_fit : (k n : ℕ) → IsBytes (bytes_high_first k n)
bytes_fit zero n zero = omega arith
bytes_fit zero n (suc i) = omega arith
bytes_fit (suc k) n zero = byte_fits k n
bytes_fit (suc k) n (suc i) = bytes_fit k n i

-- ---- numbers without zeros in front

are_digits : (base : ℕ) (ds : List ℕ) → AllDigits base ds → list_all (λ octet. is_digit octet base) ds ≡ true
are_digits base [] h = refl
are_digits base (c ∷ cs) h = rw (lt-ltb (digit_value c) base h.0) (are_digits base cs h.1)

all_cons : (P : ℕ → Type 0) (x : ℕ) (xs : List ℕ) → P x → All P xs → All P (x ∷ xs)
all_cons P x xs first rest zero d lt = first
all_cons P x xs first rest (suc k) d lt = rest k d (omega arith)

all_onto : (P : ℕ → Type 0) (k n : ℕ) (acc : List ℕ) → ((d : ℕ) → d < 16 → P (digit_glyph true d)) → All P acc
    → All P (digits_onto k 16 true n acc)
all_onto P zero n acc of all = all
all_onto P (suc k) n acc of all =
    let more = all_cons P _ acc (of (n % 16) (omega arith)) all in
    by (n / 16 == 0) more (all_onto P k (n / 16) (digit_glyph true (n % 16) ∷ acc) of more)
  where
    by : (b : Bool) → All P (digit_glyph true (n % 16) ∷ acc)
        → All P (digits_onto k 16 true (n / 16) (digit_glyph true (n % 16) ∷ acc))
        → All P (if b then digit_glyph true (n % 16) ∷ acc else digits_onto k 16 true (n / 16) (digit_glyph true (n % 16) ∷ acc))
    by true last rest = last
    by false last rest = rest

all_number : (P : ℕ → Type 0) (n : ℕ) → ((d : ℕ) → d < 16 → P (slice_index upper_digits d)) → All P (number_digits n)
all_number P n of =
    subst (All P) (digits_onto-nil 16 true n)
    (all_onto P 64 n [] (λ d lt. subst P (well d lt).glyph (of d lt)) (λ k d lt. absurd (omega arith)))

pub quiet_number : (n : ℕ) → All (λ x. is_quiet x ≡ true) (number_digits n)
quiet_number n = all_number (λ x. is_quiet x ≡ true) n (λ d lt. (well d lt).quiet)

pub solid_number : (n : ℕ) → All (λ x. is_blank x ≡ false) (number_digits n)
solid_number n = all_number (λ x. is_blank x ≡ false) n (λ d lt. (well d lt).solid)

length_onto : (k most n : ℕ) (acc : List ℕ) → n < 16 ^ (most + 1) → length (digits_onto k 16 true n acc) ≤ most + 1 + length acc
length_onto zero most n acc h = omega arith
length_onto (suc k) most n acc h = elim (cases_eq (n / 16) 0) [
  | inl none ↦ rw (eq-eqb (n / 16) 0 none) (omega arith)
  | inr some ↦
      let is = longer most n (omega (arith, some)) h in
      let one : most - 1 + 1 ≡ most = omega (arith, is.some) in
      let rest = length_onto k (most - 1) (n / 16) (digit_glyph true (n % 16) ∷ acc) (rw one is.fits) in
      rw (ne_eqb (n / 16) 0 some) (omega (arith, rest, is.some))
]

length_number : (most n : ℕ) → n < 16 ^ (most + 1) → length (number_digits n) ≤ most + 1
length_number most n h =
    let all = length_onto 64 most n [] h in
    subst (λ l. length l ≤ most + 1) (digits_onto-nil 16 true n) (omega (arith, all))

-- so many digits write it
number_read : (most n : ℕ) → n < 16 ^ (most + 1) → n < 2 ^ 64 → number 16 (most + 1) (number_digits n) ≡ Some n
number_read most n h fits =
    let is = digits_is_IsNumeral 16 true (omega arith) (omega arith) n (omega (arith, fits)) in
    number-good 16 (most + 1) (number_digits n) is.0.0 (length_number most n h) (are_digits 16 (number_digits n) is.0.1)
    ∙ ap Some is.1

pub some_number : (n : ℕ) → n < 2 ^ 64 → 0 < length (number_digits n)
some_number n fits = (digits_is_IsNumeral 16 true (omega arith) (omega arith) n (omega (arith, fits))).0.0

pub read_32 : (n : ℕ) → n < 2 ^ 32 → number 16 8 (number_digits n) ≡ Some n
read_32 n h = number_read 7 n (omega (arith, h)) (omega (arith, h))

pub read_64 : (n : ℕ) → n < 2 ^ 64 → number 16 16 (number_digits n) ≡ Some n
read_64 n h = number_read 15 n (omega (arith, h)) h

-- ---- decimal digits

-- such a digit is quiet, and no blank
quiet_digit : (c : ℕ) → digit_value c < 10 → is_quiet c ≡ true
quiet_digit c h =
    let within = digit_from_value c h in
    rw (
      lt-ltb 31 c (omega (arith, within)),
      ne_eqb c 61 (λ e. omega (arith, within, e)),
      ne_eqb c 64 (λ e. omega (arith, within, e)),
      ne_eqb c 35 (λ e. omega (arith, within, e)),
    ) refl

solid_digit : (c : ℕ) → digit_value c < 10 → is_blank c ≡ false
solid_digit c h =
    let within = digit_from_value c h in
    rw (
      ne_eqb c 32 (λ e. omega (arith, within, e)),
      ne_eqb c 9 (λ e. omega (arith, within, e)),
      ne_eqb c 13 (λ e. omega (arith, within, e)),
    ) refl

of_digits : (P : ℕ → Type 0) (ds : List ℕ) → ((c : ℕ) → digit_value c < 10 → P c) → AllDigits 10 ds → All P ds
of_digits P [] of h k d lt = absurd (omega arith)
of_digits P (c ∷ cs) of h zero d lt = of c h.0
of_digits P (c ∷ cs) of h (suc k) d lt = of_digits P cs of h.1 k d (omega arith)

pub quiet_decimal : (n : ℕ) → n < 2 ^ 64 → All (λ x. is_quiet x ≡ true) (decimal n)
quiet_decimal n h = of_digits _ (decimal n) quiet_digit (decimal_is_IsNumeral n h).0.1

pub solid_decimal : (n : ℕ) → n < 2 ^ 64 → All (λ x. is_blank x ≡ false) (decimal n)
solid_decimal n h = of_digits _ (decimal n) solid_digit (decimal_is_IsNumeral n h).0.1

pub some_decimal : (n : ℕ) → n < 2 ^ 64 → 0 < length (decimal n)
some_decimal n h = (decimal_is_IsNumeral n h).0.0

-- the digits of a number that 7 hold write it
pub decimal_read : (n : ℕ) → n < 10 ^ 7 → decimal_number (decimal n) ≡ Some n
decimal_read n h =
    let is = decimal_is_IsNumeral n (omega (arith, h)) in
    number-good 10 7 (decimal n) is.0.0 (length-decimal-le 7 n (omega arith) h (omega (arith, h)))
    (are_digits 10 (decimal n) is.0.1) ∙ ap Some is.1
