-- The digits at the front of a text, and the number that the first word of a line writes.
use Rattle.std.proofs.Common.{◌≡◌, subst, ℕ, ◌+◌, ◌<◌, ◌≤◌, Bool, true, false, List}
use Rattle.std.proofs.Common.{[], ◌∷◌, length, drop, get_or, take, cond, not, zero, suc}
use Rattle.std.proofs.Common.{Some, None, refl, sym, ap, ◌∙◌, arith, inl, inr}
use Rattle.std.specs.List.{list_all, prefix_len, position_or_len}
use Rattle.std.specs.Char.{is_digit, digit_value}
use Rattle.std.specs.Str.Parse.{digits_value}
use Rattle.std.proofs.lemmas.Bool.{le-ltb, cases_lt, false≢true}
use Rattle.std.proofs.lemmas.List.Sums.{prefix_len_is, prefix_len_stops, prefix_len_passes, prefix_len-le-length}
use Rattle.std.proofs.lemmas.List.{get_or_default, take_all}
use Rattle.std.proofs.lemmas.List.Sums.{list_all-from_AllPass, AllPass-from_list_all}
use Rattle.std.proofs.lemmas.Bool.Decides.{nat_tests}
use Rattle.std.proofs.lemmas.List.Sums.{position_or_len_is, passes_at_first}
use Rattle.std.proofs.lemmas.List.{length-take-le, drop_all, get_or-take, take-take}
use Rattle.em_text.specs.Words.{words_of, is_blank, read_first}
use Rattle.em_text.proofs.WordsLemmas.{first_word, words_of-blanks, words_of-nil}
use Rattle.std.specs.List.{before_first}
use Rattle.std.specs.Prelude.{Option, option_map}
use Rattle.em_text.specs.Numbers.{number, digits_len, IsNoLength, IsNoNumber, LeadingNumber}
use Rattle.em_text.proofs.NumbersLemmas.{number-good, number-bad, number-empty, number-long}

-- one more place of which something is known
pub below_next : (P : ℕ → Type 0) (i : ℕ) → ((k : ℕ) → k < i → P k) → P i → (k : ℕ) → k < i + 1 → P k
below_next P i before at k lt =
    elim (cases_lt k i) [
      | inl less ↦ before k less
      | inr more ↦ let same : i ≡ k = omega arith in subst P same at
    ]

-- digits up to a place that has none are all of the front
pub digits_end : (base : ℕ) (text : List ℕ) (i : ℕ) → i ≤ length text
    → ((k : ℕ) → k < i → is_digit (get_or text k 0) base ≡ true)
    → (i < length text → base ≤ digit_value (get_or text i 0)) → i ≡ digits_len base text
digits_end base text i le digits end =
    sym (prefix_len_is (λ octet. is_digit octet base) text i 0 le digits (λ lt. le-ltb _ _ (end lt)))

-- digits up to a place are no more than those of the front
pub digits_within : (base : ℕ) (text : List ℕ) (i : ℕ) → i ≤ length text
    → ((k : ℕ) → k < i → is_digit (get_or text k 0) base ≡ true) → i ≤ digits_len base text
digits_within base text i le digits =
    let n = digits_len base text in
    elim (cases_lt n i) [
      | inl less ↦ absurd (false≢true (sym (prefix_len_stops (λ octet. is_digit octet base) text 0 (omega arith))
          ∙ digits n less))
      | inr more ↦ more
    ]

-- where all of a text is its front, all octets are digits
all_digits : (base : ℕ) (text : List ℕ) → digits_len base text ≡ length text
    → list_all (λ octet. is_digit octet base) text ≡ true
all_digits base text e =
    list_all-from_AllPass _ text (λ k d lt. rw (get_or_default text k d 0 lt)
    (prefix_len_passes (λ octet. is_digit octet base) text k 0 (omega arith)))

-- and where it is not, one of them is none
some_other : (base : ℕ) (text : List ℕ) → digits_len base text < length text
    → list_all (λ octet. is_digit octet base) text ≡ false
some_other base text lt =
    let p = λ (octet : ℕ). is_digit octet base in
    by (list_all p text) refl
  where
    by : (b : Bool) → list_all (λ octet. is_digit octet base) text ≡ b → b ≡ false
    by false e = refl
    by true e = absurd (false≢true (sym (prefix_len_stops (λ octet. is_digit octet base) text 0 lt)
        ∙ AllPass-from_list_all (λ octet. is_digit octet base) text e (digits_len base text) 0 lt))

-- a word whose front is all of it is a number
pub number_front : (base most : ℕ) (word : List ℕ) (value len : ℕ) → LeadingNumber base most word value len
    → len ≡ length word → number base most word ≡ Some value
number_front base most word value len front whole =
    number-good base most word (omega (arith, front.some)) (omega (arith, front.short))
    (all_digits base word (sym front.digits ∙ whole))
    ∙ ap Some (ap (digits_value base) (sym (take_all len word (omega arith))) ∙ sym front.number)

-- any other word is none
pub number_part : (base most : ℕ) (word : List ℕ) → digits_len base word < length word → number base most word ≡ None
number_part base most word lt = number-bad base most word (some_other base word lt)

pub number_no_length : (base most : ℕ) (word : List ℕ) → IsNoLength most (digits_len base word)
    → number base most word ≡ None
number_no_length base most word wrong =
    elim (cases_lt (digits_len base word) (length word)) [
      | inl part ↦ number_part base most word part
      | inr whole ↦ elim wrong [
        | inl none ↦ number-empty base most word (omega arith)
        | inr many ↦ number-long base most word
            (omega (arith, many, prefix_len-le-length (λ octet. is_digit octet base) word))
      ]
    ]

-- a word that does not begin with a number up to its end
pub number_none : (base most : ℕ) (word : List ℕ) → IsNoNumber base most word → number base most word ≡ None
number_none base most word wrong =
    elim wrong [
      | inl length_is ↦ number_no_length base most word length_is
      | inr behind ↦ number_part base most word behind.0
    ]

-- ---- the first word of a line

-- no digit is a blank
digit_no_blank : (base octet : ℕ) → base ≤ 36 → is_digit octet base ≡ true → is_blank octet ≡ false
digit_no_blank base octet letters digit = grind (arith, nat_tests)

-- and no blank is a digit
blank_no_digit : (base octet : ℕ) → base ≤ 36 → is_blank octet ≡ true → is_digit octet base ≡ false
blank_no_digit base octet letters blank = grind (arith, nat_tests)

-- the digits at the front of a line end with its first word, or before
digits_in_word : (base : ℕ) (line : List ℕ) → base ≤ 36 → digits_len base line ≤ position_or_len is_blank line
digits_in_word base line letters =
    let p = λ (octet : ℕ). is_digit octet base in
    let m = position_or_len is_blank line in
    elim (cases_lt m (digits_len base line)) [
      | inl less ↦ absurd (false≢true
          (sym (digit_no_blank base (get_or line m 0) letters (prefix_len_passes p line m 0 less))
          ∙ passes_at_first is_blank line 0 (omega (arith, prefix_len-le-length p line))))
      | inr more ↦ more
    ]

-- digits up to a place are those at the front of what stands before it
digits_of_part : (base : ℕ) (text : List ℕ) (m : ℕ) → digits_len base text ≤ m
    → digits_len base (take m text) ≡ digits_len base text
digits_of_part base [] zero within = refl
digits_of_part base [] (suc m) within = refl
digits_of_part base (x ∷ xs) zero within = by (is_digit x base) within
  where
    by : (b : Bool) → cond b (1 + digits_len base xs) 0 ≤ 0 → 0 ≡ cond b (1 + digits_len base xs) 0
    by true le = absurd (omega arith)
    by false le = refl
digits_of_part base (x ∷ xs) (suc m) within = by (is_digit x base) (digits_of_part base xs m) within
  where
    by : (b : Bool) → (digits_len base xs ≤ m → digits_len base (take m xs) ≡ digits_len base xs)
        → cond b (1 + digits_len base xs) 0 ≤ suc m
        → cond b (1 + digits_len base (take m xs)) 0 ≡ cond b (1 + digits_len base xs) 0
    by true more le = ap (λ n. 1 + n) (more (omega arith))
    by false more le = refl

-- so they are those at the front of that word
digits_of_word : (base : ℕ) (line : List ℕ) → base ≤ 36
    → digits_len base (take (position_or_len is_blank line) line) ≡ digits_len base line
digits_of_word base line letters = digits_of_part base line (position_or_len is_blank line)
    (digits_in_word base line letters)

-- where they end at a blank or with the line, they are the whole word
word_of_digits : (base : ℕ) (line : List ℕ) → base ≤ 36
    → (digits_len base line < length line → is_blank (get_or line (digits_len base line) 0) ≡ true)
    → position_or_len is_blank line ≡ digits_len base line
word_of_digits base line letters end =
    let p = λ (octet : ℕ). is_digit octet base in
    position_or_len_is is_blank line (digits_len base line) 0 (prefix_len-le-length p line)
    (λ k lt. digit_no_blank base (get_or line k 0) letters (prefix_len_passes p line k 0 lt)) end

-- what is read in the first word of a line, where nothing is read in no octets
pub first_read : {A : Type 0} (read : List ℕ → Option A) (line : List ℕ) (k : ℕ) (from : List ℕ)
    → k ≡ prefix_len is_blank line → from ≡ drop k line → read [] ≡ None
    → read_first read (words_of line)
    ≡ option_map (λ value. (value, words_of (drop (position_or_len is_blank from) from)))
    (read (before_first is_blank from))
first_read {A} read line k from blanks is_from none =
    elim (cases_lt k (length line)) [
      | inl lt ↦ rw (is_from, first_word line k _ _ _ blanks lt refl refl refl) refl
      | inr past ↦
          let over : drop k line ≡ [] = drop_all k line past in
          let empty : words_of line ≡ [] = sym (words_of-blanks line) ∙ ap (λ n. words_of (drop n line)) (sym blanks)
          ∙ ap words_of over ∙ words_of-nil in
          rw (is_from, over, empty, none) refl
    ]

-- where the first word is no number, none is read
none_read : (base most : ℕ) (line : List ℕ) (k : ℕ) → k ≡ prefix_len is_blank line
    → number base most (take (position_or_len is_blank (drop k line)) (drop k line)) ≡ None
    → read_first (number base most) (words_of line) ≡ None
none_read base most line k blanks is =
    first_read (number base most) line k (drop k line) blanks refl (number-empty base most [] refl)
    ∙ ap (option_map (λ value. (value, words_of _))) is

-- where the line behind its blanks begins with no number
pub no_number_read : (base most : ℕ) (line : List ℕ) (k : ℕ) (from : List ℕ) → k ≡ prefix_len is_blank line
    → from ≡ drop k line → base ≤ 36 → IsNoNumber base most from
    → read_first (number base most) (words_of line) ≡ None
no_number_read base most line k from blanks is_from letters wrong =
    let m = position_or_len is_blank from in
    let n = digits_len base from in
    let word = take m from in
    none_read base most line k blanks
    (rw (← is_from)
    elim wrong [
      | inl length_is ↦ number_no_length base most word (rw (digits_of_word base from letters) length_is)
      | inr behind ↦
          let less : n < m = elim (cases_lt n m) [
            | inl less ↦ less
            | inr more ↦
                let same : m ≡ n = omega (arith, more, digits_in_word base from letters) in
                absurd (false≢true (sym behind.1 ∙ ap (λ i. is_blank (get_or from i 0)) (sym same)
                ∙ passes_at_first is_blank from 0 (omega (arith, same, behind.0))))
          ] in
          number_part base most word
          (rw (
            digits_of_word base from letters,
            length-take-le m from (prefix_len-le-length (λ x. not (is_blank x)) from),
          ) less)
    ])

-- where it begins with one, that is the number of its first word
pub number_read : (base most : ℕ) (line : List ℕ) (k value len : ℕ) (from rest : List ℕ)
    → k ≡ prefix_len is_blank line → from ≡ drop k line → base ≤ 36 → LeadingNumber base most from value len
    → rest ≡ drop len from → Some (value, words_of rest) ≡ read_first (number base most) (words_of line)
number_read base most line k value len from rest blanks is_from letters front is_rest =
    let word = take len from in
    let lt : k < length line = elim (cases_lt k (length line)) [
      | inl less ↦ less
      | inr past ↦
          let none : length from ≡ 0 = ap (λ xs. length xs) (is_from ∙ drop_all k line past) in
          absurd (omega (arith, none, front.some, front.within))
    ] in
    let whole : len ≡ position_or_len is_blank from =
    front.digits ∙ sym (word_of_digits base from letters (rw (← front.digits) front.end)) in
    let long : length word ≡ len = length-take-le len from front.within in
    let own : LeadingNumber base most word value len = record {
      digits = front.digits ∙ sym (digits_of_part base from len (omega (arith, front.digits)));
      some = front.some;
      short = front.short;
      within = omega (arith, long);
      number = front.number ∙ ap (digits_value base) (sym (take_all len word (omega (arith, long))));
      bound = front.bound;
      end = λ more. absurd (omega (arith, more, long));
    } in
    let steps : words_of line ≡ word ∷ words_of rest =
    first_word line k len word rest blanks lt (rw (← is_from) whole) (rw (← is_from) refl)
    (rw (← is_from) is_rest) in
    rw (steps, number_front base most word value len own (sym long)) refl

-- whether a line has a word
pub no_word_left : (line : List ℕ) (k : ℕ) → k ≡ prefix_len is_blank line → k ≡ length line → words_of line ≡ []
no_word_left line k blanks all =
    sym (words_of-blanks line) ∙ ap (λ n. words_of (drop n line)) (sym blanks)
    ∙ ap words_of (drop_all k line (omega arith)) ∙ words_of-nil

pub word_left : (line : List ℕ) (k : ℕ) → k ≡ prefix_len is_blank line → k < length line → words_of line ≡ [] → ⊥
word_left line k blanks lt none = cc (none, first_word line k _ _ _ blanks lt refl refl refl)

-- the number at the front of a text is that at the front of its first octets, where it ends among them or behind them
pub number_near : (base most n : ℕ) (text near : List ℕ) (value len : ℕ) → base ≤ 36 → n ≤ length text
    → near ≡ take n text → LeadingNumber base most near value len
    → (len ≡ n → len < length text → is_blank (get_or text len 0) ≡ true) → LeadingNumber base most text value len
number_near base most n text near value len letters room is front behind =
    let p = λ (octet : ℕ). is_digit octet base in
    let long : length near ≡ n = ap (λ xs. length xs) is ∙ length-take-le n text room in
    let within : len ≤ n = omega (arith, front.within, long) in
    let same : (k : ℕ) → k < n → get_or near k 0 ≡ get_or text k 0 =
    λ k lt. ap (λ xs. get_or xs k 0) is ∙ get_or-take n text k 0 lt in
    let end : (len < length text → is_blank (get_or text len 0) ≡ true) = λ lt. elim (cases_lt len n) [
      | inl less ↦ sym (ap is_blank (same len less)) ∙ front.end (omega (arith, long, less))
      | inr more ↦ behind (omega (arith, more, within)) lt
    ] in
    record {
      digits = sym (prefix_len_is p text len 0 (omega (arith, within, room))
          (λ k lt. ap p (sym (same k (omega (arith, lt, within))))
          ∙ prefix_len_passes p near k 0 (rw (← front.digits) lt))
          (λ lt. blank_no_digit base (get_or text len 0) letters (end lt)));
      some = front.some;
      short = front.short;
      within = omega (arith, within, room);
      number = front.number ∙ ap (digits_value base) (ap (take len) is ∙ take-take len n text within);
      bound = front.bound;
      end = end;
    }
