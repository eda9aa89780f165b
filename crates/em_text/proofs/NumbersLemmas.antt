-- The number and the octets of a word, by cases.
use Rattle.std.proofs.Common.{zero, suc, ◌≡◌, ◌≢◌, ◌%◌, ℕ, ◌+◌, ◌*◌, ◌^◌, ◌<◌, ◌≤◌, true, false, List, length, drop}
use Rattle.std.proofs.Common.{get_or}
use Rattle.std.proofs.Common.{Option, Some, None, refl, sym, arith, add-one, take, Result, Ok, Err, ap, ◌∙◌, inl, inr}
use Rattle.std.proofs.Common.{subst}
use Rattle.std.specs.List.{list_all, AllPass}
use Rattle.std.proofs.lemmas.List.{drop_more, get_or_default, get_or-set_same, get_or-set_other, set-get_or}
use Rattle.std.proofs.lemmas.Bool.{lt-ltb, le-ltb, cases_lt, eqb-false}
use Rattle.std.proofs.lemmas.Bool.Decides.{nat_tests}
use Rattle.std.proofs.Math.Nat.{pow-le-pow_right, pow-suc, mul-le-mul_right}
use Rattle.std.specs.Char.{is_digit, digit_value}
use Rattle.std.specs.Str.Parse.{digits_value, digits_value_after}
use Rattle.std.specs.Result.{result_ok}
use Rattle.std.specs.Prelude.{◌==◌, EachIndex, IsSome, slice_index, slice_set, min}
use Rattle.hex.specs.Hex.{decode_of, is_hex_digit, decode_pairs, hex_digit_value, digit_or_error, value_at, pair_value}
use Rattle.hex.specs.declared.error.FromHexError.TheVariants.{InvalidHexCharacter}
use Rattle.hex.proofs.Pairs.{prepend, decode_done, decode_start, decode_step}
use Rattle.hex.proofs.HexLemmas.{decode_of-even, decode_pairs-digits, decode_of-ok}
use Rattle.hex.specs.declared.error.FromHexError.{FromHexError}
use Rattle.em_text.specs.Numbers.{number, octets_of, IsPair, ArePairs}

-- no digit
pub number-empty : (base most : ℕ) (word : List ℕ) → length word ≡ 0 → number base most word ≡ None
unfolding number
number-empty base most word e = rw e refl

-- too many digits
pub number-long : (base most : ℕ) (word : List ℕ) → most < length word → number base most word ≡ None
unfolding number
number-long base most word h = grind (arith, nat_tests)

-- an octet that is no digit
pub number-bad : (base most : ℕ) (word : List ℕ) → list_all (λ octet. is_digit octet base) word ≡ false
    → number base most word ≡ None
unfolding number
number-bad base most word h = grind (arith, nat_tests)

-- digits alone, and few enough
pub number-good : (base most : ℕ) (word : List ℕ) → 0 < length word → length word ≤ most
    → list_all (λ octet. is_digit octet base) word ≡ true
    → number base most word ≡ Some (digits_value base word)
unfolding number
number-good base most word some short h = grind (arith, nat_tests)

-- one digit more
pub value_step : (base i v d : ℕ) → v < base ^ i → d < base → v * base + d < base ^ (i + 1)
value_step base i v d small digit =
    let more : v + 1 ≤ base ^ i = omega arith in
    let room : (v + 1) * base ≤ base ^ i * base = mul-le-mul_right base more in
    let power : base ^ (i + 1) ≡ base ^ i * base = rw add-one (pow-suc base i) in
    omega (arith, power, room)

-- what fits fewer digits fits more
pub below_power : (base most i v : ℕ) → i ≤ most → 0 < base → v < base ^ i → v < base ^ most
below_power base most i v le some small =
    let bound : base ^ i ≤ base ^ most = pow-le-pow_right {n = base} some {i = i} {j = most} le in
    omega arith

-- a number of fewer digits than the most has room for one more
pub value_fits : (base most i v d : ℕ) → i < most → 0 < base → v < base ^ i → d < base → base ^ most ≤ 2 ^ 64
    → v * base + d < 2 ^ 64
value_fits base most i v d h some small digit room =
    let step : v * base + d < base ^ most =
    below_power base most (i + 1) (v * base + d) (omega arith) some (value_step base i v d small digit) in
    omega arith

-- so it does not wrap
pub value_wraps : (base most i v d : ℕ) → i < most → 0 < base → v < base ^ i → d < base → base ^ most ≤ 2 ^ 64
    → (v * base % 2 ^ 64 + d) % 2 ^ 64 ≡ v * base + d
value_wraps base most i v d h some small digit room =
    let fits : v * base + d < 2 ^ 64 = value_fits base most i v d h some small digit room in
    omega (arith, fits)

-- a place that is no digit
pub bad_digit : (base : ℕ) (word : List ℕ) (i : ℕ) → i < length word → base ≤ digit_value (get_or word i 0)
    → list_all (λ octet. is_digit octet base) (drop i word) ≡ false
bad_digit base word i lt bad = rw (drop_more word i 0 lt, le-ltb _ _ bad) refl

-- a place that is a digit
pub good_digit : (base : ℕ) (word : List ℕ) (i : ℕ) → i < length word → digit_value (get_or word i 0) < base
    → list_all (λ octet. is_digit octet base) (drop i word)
    ≡ list_all (λ octet. is_digit octet base) (drop (i + 1) word)
good_digit base word i lt good = rw (drop_more word i 0 lt, lt-ltb _ _ good) refl

-- the value of one digit more
pub value_digit : (base v : ℕ) (word : List ℕ) (i : ℕ) → i < length word
    → digits_value_after base v (drop i word)
    ≡ digits_value_after base (v * base + digit_value (get_or word i 0)) (drop (i + 1) word)
value_digit base v word i lt = rw (drop_more word i 0 lt) refl

-- no digit writes no octets
pub octets_of-empty : (word : List ℕ) → length word ≡ 0 → octets_of word ≡ None
unfolding octets_of
octets_of-empty word e = rw e refl

-- nor does an odd number of them
pub octets_of-odd : (word : List ℕ) → length word % 2 ≢ 0 → octets_of word ≡ None
unfolding octets_of
octets_of-odd word h = grind (arith, nat_tests)

-- where there are digits, the decoder decides
pub octets_of-some : (word : List ℕ) → 0 < length word → octets_of word ≡ result_ok (decode_of word)
unfolding octets_of
octets_of-some word h = rw (lt-ltb 0 (length word) h) refl

-- ---- digits alone

-- the value of a hexadecimal digit, in the words of the crate `hex`
hex_digit-value : (c : ℕ) → digit_value c < 16 → is_hex_digit c ≡ true
hex_digit-value c h = grind (arith, nat_tests)

value-hex_digit : (c : ℕ) → is_hex_digit c ≡ true → digit_value c < 16
value-hex_digit c h = grind (arith, nat_tests)

-- an even number of digits writes octets
pub octets_of-digits : (word : List ℕ) → 0 < length word → length word % 2 ≡ 0
    → EachIndex word (λ k. digit_value (slice_index word k) < 16) → IsSome (octets_of word)
octets_of-digits word some even digits =
    let pass : AllPass is_hex_digit word = λ k d lt.
    rw (get_or_default word k d 0 lt) (hex_digit-value (get_or word k 0) (digits k lt)) in
    let bytes = decode_pairs-digits 0 word even pass in
    rw (octets_of-some word some ∙ ap result_ok (decode_of-even word even ∙ bytes.1)) refl

-- what writes octets has digits alone
pub digits-octets_of : (word : List ℕ) → 0 < length word → IsSome (octets_of word)
    → EachIndex word (λ k. digit_value (slice_index word k) < 16)
digits-octets_of word some h =
    let written = decoded word (decode_of word) refl (rw (octets_of-some word some) at h) in
    λ k lt. value-hex_digit (get_or word k 0) (written k 0 lt)
  where
    decoded : (word : List ℕ) (r : Result (List ℕ) FromHexError) → decode_of word ≡ r → IsSome (result_ok r)
        → AllPass is_hex_digit word
    decoded word (Ok bytes) e h = (decode_of-ok word bytes e).1
    decoded word (Err x) e h = cc h

-- a word that has some octet but digits writes no octets
pub octets_of-no_digits : (word : List ℕ) → 0 < length word
    → (EachIndex word (λ k. digit_value (slice_index word k) < 16) → ⊥) → octets_of word ≡ None
octets_of-no_digits word some not = none (octets_of word) (λ h. not (digits-octets_of word some h))
  where
    none : (o : Option (List ℕ)) → (IsSome o → ⊥) → o ≡ None
    none None h = refl
    none (Some x) h = absurd (h refl)

-- octets are half as many as the digits that write them
pub octets_of-length : (word octets : List ℕ) → octets_of word ≡ Some octets → length word ≡ 2 * length octets
octets_of-length word octets h =
    elim (cases_lt 0 (length word)) [
      | inl some ↦ written word octets (decode_of word) refl (sym (octets_of-some word some) ∙ h)
      | inr none ↦ cc (sym (octets_of-empty word (omega arith)) ∙ h)
    ]
  where
    written : (word octets : List ℕ) (r : Result (List ℕ) FromHexError) → decode_of word ≡ r
        → result_ok r ≡ Some octets → length word ≡ 2 * length octets
    written word octets (Ok bytes) e h =
        let same : bytes ≡ octets = cc in
        rw (← same) (decode_of-ok word bytes e).2
    written word octets (Err x) e h = cc h

-- ---- two digits an octet

-- the values of hexadecimal digits, in the words of the crate `hex`
hex_digit_value-good : (c : ℕ) → digit_value c < 16 → hex_digit_value c ≡ Some (digit_value c)
hex_digit_value-good c h = grind (arith, nat_tests)

hex_digit_value-bad : (c : ℕ) → 16 ≤ digit_value c → hex_digit_value c ≡ None
hex_digit_value-bad c h = grind (arith, nat_tests)

value_at-good : (c i : ℕ) → digit_value c < 16 → value_at c i ≡ Ok (digit_value c)
value_at-good c i h = ap (digit_or_error c i) (hex_digit_value-good c h)

value_at-bad : (c i : ℕ) → 16 ≤ digit_value c → value_at c i ≡ Err (InvalidHexCharacter c i)
value_at-bad c i h = ap (digit_or_error c i) (hex_digit_value-bad c h)

-- a pair of digits
pub pair_value-good : (a b i : ℕ) → digit_value a < 16 → digit_value b < 16
    → pair_value a b i ≡ Ok (digit_value a * 16 + digit_value b)
pair_value-good a b i ha hb =
    let ea = value_at-good a i ha in
    let eb = value_at-good b (i + 1) hb in
    rw (ea, eb) refl

-- the answer of a decoder that is at the end
pub octets_of-good : (word octets : List ℕ) (i : ℕ) → 0 < length word → length word ≡ 2 * length octets
    → length octets ≤ i
    → decode_pairs 0 word ≡ prepend (take i octets) (decode_pairs (2 * i) (drop (2 * i) word))
    → octets_of word ≡ Some octets
octets_of-good word octets i some room end so_far =
    octets_of-some word some
    ∙ ap result_ok (decode_of-even word (omega arith) ∙ decode_done word octets i end (omega arith) so_far)

-- octets that the pairs of a word write are those that it writes
pub pairs_write : (word octets : List ℕ) → 0 < length word → length word ≡ 2 * length octets
    → ArePairs word octets 0 (length octets) → octets_of word ≡ Some octets
pairs_write word octets some room pairs =
    octets_of-good word octets (length octets) some room (omega arith) (front (length octets) (omega arith))
  where
    one : (i : ℕ) → i < length octets → IsPair word i (slice_index octets i)
        → decode_pairs 0 word ≡ prepend (take i octets) (decode_pairs (2 * i) (drop (2 * i) word))
        → decode_pairs 0 word ≡ prepend (take (i + 1) octets) (decode_pairs (2 * (i + 1)) (drop (2 * (i + 1)) word))
    one i lt pair before =
        let reads = pair_value-good (slice_index word (2 * i)) (slice_index word (2 * i + 1)) (2 * i) pair.high pair.low
        ∙ ap Ok (sym pair.value) in
        let more = decode_step word octets i (slice_index octets i) (omega arith) lt reads before in
        rw (set-get_or octets i 0) at more

    front : (i : ℕ) → i ≤ length octets
        → decode_pairs 0 word ≡ prepend (take i octets) (decode_pairs (2 * i) (drop (2 * i) word))
    front zero le = decode_start word octets
    front (suc i) le =
        let more = one i (omega arith) (pairs i (omega arith) (omega arith)) (front i (omega arith)) in
        subst (λ (j : ℕ). decode_pairs 0 word ≡ prepend (take j octets) (decode_pairs (2 * j) (drop (2 * j) word)))
        (omega arith) more

-- ---- pairs of digits, one after another

-- one octet more
pub ArePairs-more : (text octets : List ℕ) (from at octet : ℕ) → at < length octets → IsPair text at octet
    → ArePairs text octets from at → ArePairs text (slice_set octets at octet) from (at + 1)
ArePairs-more text octets from at octet room pair before = λ k low lt.
    elim (cases_lt k at) [
      | inl less ↦ rw (get_or-set_other octets at k octet 0 (omega arith)) (before k low less)
      | inr more ↦
          let same : at ≡ k = omega arith in
          subst (λ j. IsPair text j (slice_index (slice_set octets at octet) j)) same
          (rw (get_or-set_same octets at octet 0 room) pair)
    ]

-- a pair whose values are there, neither of them that of no digit
pub value_pair : (text values : List ℕ) (done i n : ℕ) → 2 * i + 1 < n
    → ((k : ℕ) → k < n → slice_index values k ≡ min (digit_value (slice_index text (2 * done + k))) 16)
    → (slice_index values (2 * i) == 16) ≡ false → (slice_index values (2 * i + 1) == 16) ≡ false
    → IsPair text (done + i) ((slice_index values (2 * i) * 16 % 256 + slice_index values (2 * i + 1)) % 256)
value_pair text values done i n has are high low =
    let value = λ (k : ℕ). min (digit_value (slice_index text k)) 16 in
    let first : slice_index values (2 * i) ≡ value (2 * (done + i)) =
    are (2 * i) (omega arith) ∙ ap value (omega arith) in
    let second : slice_index values (2 * i + 1) ≡ value (2 * (done + i) + 1) =
    are (2 * i + 1) has ∙ ap value (omega arith) in
    let high_digit = eqb-false _ _ high in
    let low_digit = eqb-false _ _ low in
    record {
      high = omega (arith, first, high_digit);
      low = omega (arith, second, low_digit);
      value = omega (arith, first, second, high_digit, low_digit);
    }
