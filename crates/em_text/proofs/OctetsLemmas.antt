-- The octets that the word at the front of a text writes.
use Rattle.std.proofs.Common.{◌≡◌, ◌≢◌, ◌⊎◌, ◌+◌, ◌*◌, ◌/◌, ◌%◌, ◌<◌, ◌≤◌, ℕ, true, false, List, length, take, not}
use Rattle.std.proofs.Common.{subst}
use Rattle.std.proofs.Common.{Option, Some, None, refl, sym, ap, ◌∙◌, arith, inl, inr}
use Rattle.std.specs.List.{before_first, position_or_len}
use Rattle.std.specs.Prelude.{slice_index, option_map, IsSome}
use Rattle.std.specs.Char.{digit_value}
use Rattle.std.proofs.lemmas.Bool.{cases_lt, false≢true}
use Rattle.std.proofs.lemmas.Bool.Decides.{nat_tests}
use Rattle.std.proofs.lemmas.List.{get_or-take, length-take-le, take_all}
use Rattle.std.proofs.lemmas.List.Sums.{position_or_len_is, passes_at_first, prefix_len-le-length}
use Rattle.em_text.specs.Numbers.{octets_of, ArePairs}
use Rattle.em_text.specs.Words.{is_blank}
use Rattle.em_text.proofs.NumbersLemmas.{octets_of-empty, octets_of-odd, octets_of-no_digits, pairs_write}

-- no hexadecimal digit is a blank
hex_no_blank : (octet : ℕ) → digit_value octet < 16 → is_blank octet ≡ false
hex_no_blank octet digit = grind (arith, nat_tests)

-- nor is an octet of a pair
pairs_no_blank : (text octets : List ℕ) (done : ℕ) → ArePairs text octets 0 done → (k : ℕ) → k < 2 * done
    → is_blank (slice_index text k) ≡ false
pairs_no_blank text octets done pairs k lt =
    let pair = pairs (k / 2) (omega arith) (omega arith) in
    elim (cases_lt (k % 2) 1) [
      | inl even ↦
          let at : 2 * (k / 2) ≡ k = omega arith in
          subst (λ j. is_blank (slice_index text j) ≡ false) at
          (hex_no_blank (slice_index text (2 * (k / 2))) pair.high)
      | inr odd ↦
          let at : 2 * (k / 2) + 1 ≡ k = omega arith in
          subst (λ j. is_blank (slice_index text j) ≡ false) at
          (hex_no_blank (slice_index text (2 * (k / 2) + 1)) pair.low)
    ]

-- so many octets stand before the first blank
front_within : (text : List ℕ) → position_or_len is_blank text ≤ length text
front_within text = prefix_len-le-length (λ octet. not (is_blank octet)) text

-- pairs up to a blank or the text's end are the whole word
pub front_octets : (text octets : List ℕ) (done : ℕ) → 0 < done → 2 * done ≤ length text → done ≤ length octets
    → ArePairs text octets 0 done → (2 * done < length text → is_blank (slice_index text (2 * done)) ≡ true)
    → (2 * done ≡ position_or_len is_blank text)
    × (octets_of (before_first is_blank text) ≡ Some (take (2 * done / 2) octets))
front_octets text octets done some within room pairs end =
    let m = position_or_len is_blank text in
    let whole : m ≡ 2 * done =
    position_or_len_is is_blank text (2 * done) 0 within (pairs_no_blank text octets done pairs) end in
    let half : 2 * done / 2 ≡ done = omega arith in
    let word = take (2 * done) text in
    let long : length word ≡ 2 * done = length-take-le (2 * done) text within in
    let few : length (take done octets) ≡ done = length-take-le done octets room in
    let own : ArePairs word (take done octets) 0 (length (take done octets)) = λ k low lt.
    let below : k < done = omega (arith, few) in
    let pair = pairs k low below in
    let high : slice_index word (2 * k) ≡ slice_index text (2 * k) =
    get_or-take (2 * done) text (2 * k) 0 (omega arith) in
    let second : slice_index word (2 * k + 1) ≡ slice_index text (2 * k + 1) =
    get_or-take (2 * done) text (2 * k + 1) 0 (omega arith) in
    let octet : slice_index (take done octets) k ≡ slice_index octets k = get_or-take done octets k 0 below in
    record {
      high = rw high pair.high;
      low = rw second pair.low;
      value = octet ∙ pair.value ∙ sym (rw (high, second) refl);
    } in
    let written = pairs_write word (take done octets) (omega (arith, long)) (omega (arith, long, few)) own in
    (sym whole, rw (half, whole) written)

-- where no pair stands behind them, and no blank or there is none of them, the word is of no octets
pub front_no_octets : (text octets : List ℕ) (done : ℕ) → ArePairs text octets 0 done
    → (2 * done + 1 < length text → digit_value (slice_index text (2 * done)) < 16
    → digit_value (slice_index text (2 * done + 1)) < 16 → ⊥)
    → (done ≡ 0) ⊎ ((2 * done < length text) × (is_blank (slice_index text (2 * done)) ≡ false))
    → octets_of (before_first is_blank text) ≡ None
front_no_octets text octets done pairs ends wrong =
    let m = position_or_len is_blank text in
    let word = take m text in
    let long : length word ≡ m = length-take-le m text (front_within text) in
    elim (cases_lt (2 * done) m) [
      | inl more ↦
          elim (cases_lt (m % 2) 1) [
            | inl even ↦
                octets_of-no_digits word (omega (arith, long)) (λ digits.
                let behind : 2 * done + 1 < m = omega arith in
                let high : digit_value (slice_index word (2 * done)) < 16 = digits (2 * done) (omega (arith, long)) in
                let low : digit_value (slice_index word (2 * done + 1)) < 16 =
                digits (2 * done + 1) (omega (arith, long)) in
                ends (omega (arith, front_within text)) (rw (get_or-take m text (2 * done) 0 more) at high)
                (rw (get_or-take m text (2 * done + 1) 0 behind) at low))
            | inr odd ↦ octets_of-odd word (λ e. absurd (omega (arith, long, odd, e)))
          ]
      | inr less ↦
          elim wrong [
            | inl none ↦ octets_of-empty word (omega (arith, long))
            | inr other ↦
                let at : is_blank (slice_index text m) ≡ true =
                passes_at_first is_blank text 0 (omega (arith, other.0)) in
                elim (cases_lt m (2 * done)) [
                  | inl before ↦ absurd (false≢true (sym (pairs_no_blank text octets done pairs m before) ∙ at))
                  | inr after ↦
                      let same : m ≡ 2 * done = omega arith in
                      absurd (false≢true (sym other.1 ∙ ap (λ k. is_blank (slice_index text k)) (sym same) ∙ at))
                ]
          ]
    ]

-- a word that is not all before its first blank, or of which that writes no octets
pub no_octets : (word : List ℕ)
    → (position_or_len is_blank word ≢ length word) ⊎ (octets_of (before_first is_blank word) ≡ None)
    → octets_of word ≡ None
no_octets word wrong =
    let m = position_or_len is_blank word in
    elim (cases_lt m (length word)) [
      | inl lt ↦
          octets_of-no_digits word (omega arith) (λ digits.
          let digit : digit_value (slice_index word m) < 16 = digits m lt in
          false≢true (sym (hex_no_blank (slice_index word m) digit) ∙ passes_at_first is_blank word 0 lt))
      | inr all ↦
          elim wrong [
            | inl part ↦ absurd (part (omega (arith, all, front_within word)))
            | inr none ↦ ap octets_of (sym (take_all m word all)) ∙ none
          ]
    ]

-- what is made of what is there is there too
pub some_mapped : {A B : Type 0} (f : A → B) (o : Option A) → IsSome o → IsSome (option_map f o)
some_mapped f None some = cc some
some_mapped f (Some x) some = refl

-- octets behind those of before, which stayed
pub pairs_joined : (text old new : List ℕ) (from to : ℕ) → ArePairs text old 0 from
    → ((k : ℕ) → k < from → slice_index new k ≡ slice_index old k) → ArePairs text new from to → ArePairs text new 0 to
pairs_joined text old new from to before same behind = λ k low lt.
    elim (cases_lt k from) [
      | inl less ↦ rw (same k less) (before k low less)
      | inr more ↦ behind k more lt
    ]
