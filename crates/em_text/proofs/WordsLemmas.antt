-- Taking the first word off a line.
use Rattle.std.proofs.Common.{one-add, ◌≡◌, ℕ, ◌+◌, ◌<◌, ◌≤◌, Bool, true, false, not, cond, List, [], ◌∷◌, length, take}
use Rattle.std.proofs.Common.{◌-◌, ◌⊎◌, subst, drop, get_or, refl, sym, ap, ◌∙◌, arith, nat_lt, filter, inl, inr}
use Rattle.std.specs.List.{slice_split, position_or_len, prefix_len, before_first, after_first, All}
use Rattle.std.proofs.lemmas.List.{length-take-le, drop_more, drop_all, take_all}
use Rattle.std.proofs.lemmas.List.Splits.{slice_split-cons_yes, slice_split_none, slice_split_first, length-slice_split}
use Rattle.std.proofs.lemmas.List.Sums.{fails_before_first, passes_at_first, prefix_len-le-length, prefix_len_stops}
use Rattle.std.proofs.lemmas.List.Sums.{length-filter, count_by-le-length}
use Rattle.std.proofs.lemmas.Bool.{cases_lt, lt-ltb}
use Rattle.std.proofs.lemmas.Bool.Decides.{nat_tests}
use Rattle.std.proofs.lemmas.List.Sums.{position_or_len_is}
use Rattle.std.specs.Prelude.{slice_index, nat_eq, ◌&&◌}
use Rattle.std.specs.Str.{bytes_eq}
use Rattle.em_text.specs.Words.{words_of, is_blank}

-- the parts that are not empty
abbrev pub kept : List (List ℕ) → List (List ℕ)
kept parts = filter (λ word. nat_lt 0 (length word)) parts

-- a blank in front adds no word
words_of-blank : (x : ℕ) (xs : List ℕ) → is_blank x ≡ true → words_of (x ∷ xs) ≡ words_of xs
unfolding words_of
words_of-blank x xs h = ap kept (slice_split-cons_yes is_blank x xs h)

-- blanks in front add no word
pub words_of-blanks : (xs : List ℕ) → words_of (drop (prefix_len is_blank xs) xs) ≡ words_of xs
words_of-blanks [] = refl
words_of-blanks (x ∷ xs) = by_first x xs (is_blank x) refl (words_of-blanks xs) where
  by_first : (x : ℕ) (xs : List ℕ) (b : Bool) → is_blank x ≡ b
      → words_of (drop (prefix_len is_blank xs) xs) ≡ words_of xs
      → words_of (drop (cond b (1 + prefix_len is_blank xs) 0) (x ∷ xs)) ≡ words_of (x ∷ xs)
  by_first x xs true h more =
      ap (λ n. words_of (drop n (x ∷ xs))) (one-add (prefix_len is_blank xs)) ∙ more ∙ sym (words_of-blank x xs h)
  by_first x xs false h more = refl

-- a part that is not empty is kept
kept-cons : (part : List ℕ) (parts : List (List ℕ)) → 0 < length part → kept (part ∷ parts) ≡ part ∷ kept parts
kept-cons part parts h = rw (lt-ltb 0 (length part) h) refl

-- an empty line has no word
pub words_of-nil : words_of [] ≡ []
unfolding words_of
words_of-nil = refl

-- a line without a blank is one word
words_of-whole : (xs : List ℕ) → All (λ x. is_blank x ≡ false) xs → 0 < length xs → words_of xs ≡ xs ∷ []
unfolding words_of
words_of-whole xs none some = ap kept (slice_split_none is_blank xs none) ∙ kept-cons xs [] some

-- what is kept of the parts
words_of-first_part : (xs part : List ℕ) (more : List ℕ) → slice_split is_blank xs ≡ part ∷ slice_split is_blank more
    → 0 < length part → words_of xs ≡ part ∷ words_of more
unfolding words_of
words_of-first_part xs part more e some = ap kept e ∙ kept-cons part (slice_split is_blank more) some

-- a word that ends at a blank
ends_at_blank : (xs : List ℕ) → 0 < position_or_len is_blank xs → position_or_len is_blank xs < length xs
    → words_of xs ≡ before_first is_blank xs ∷ words_of (drop (position_or_len is_blank xs) xs)
ends_at_blank xs some lt =
    let n = position_or_len is_blank xs in
    let long : 0 < length (before_first is_blank xs) = rw (length-take-le n xs (omega arith)) some in
    let rest : words_of (drop n xs) ≡ words_of (after_first is_blank xs) =
    ap words_of (drop_more xs n 0 lt) ∙ words_of-blank (get_or xs n 0) _ (passes_at_first is_blank xs 0 lt) in
    words_of-first_part xs (before_first is_blank xs) (after_first is_blank xs)
    (slice_split_first is_blank xs 0 lt) long
    ∙ ap (λ l. before_first is_blank xs ∷ l) (sym rest)

-- a word that ends with its line
ends_with_line : (xs : List ℕ) → 0 < position_or_len is_blank xs → length xs ≤ position_or_len is_blank xs
    → words_of xs ≡ before_first is_blank xs ∷ words_of (drop (position_or_len is_blank xs) xs)
ends_with_line xs some le =
    let n = position_or_len is_blank xs in
    let same : n ≡ length xs = omega (arith, prefix_len-le-length (λ x. not (is_blank x)) xs) in
    let long : 0 < length xs = omega arith in
    words_of-whole xs (λ k d lt. fails_before_first is_blank xs k d (omega arith)) long
    ∙ ap (λ l. l ∷ []) (sym (take_all n xs le))
    ∙ ap (λ l. before_first is_blank xs ∷ l) (sym (ap words_of (drop_all n xs le) ∙ words_of-nil))

-- the first word ends at the first blank, or with the line
pub words_of_first : (xs : List ℕ) → 0 < position_or_len is_blank xs
    → words_of xs ≡ before_first is_blank xs ∷ words_of (drop (position_or_len is_blank xs) xs)
words_of_first xs some =
    elim (cases_lt (position_or_len is_blank xs) (length xs)) [
      | inl lt ↦ ends_at_blank xs some lt
      | inr le ↦ ends_with_line xs some le
    ]

-- what stands at the first place that is no blank
first_is_long : (xs : List ℕ) → prefix_len is_blank xs < length xs
    → 0 < position_or_len is_blank (drop (prefix_len is_blank xs) xs)
first_is_long xs h =
    let n = prefix_len is_blank xs in
    let stops : is_blank (get_or xs n 0) ≡ false = prefix_len_stops is_blank xs 0 h in
    rw (drop_more xs n 0 h, stops) (omega arith)

-- the same, at a place that is known to be the first that is no blank
long_at : (line : List ℕ) (n : ℕ) → n ≡ prefix_len is_blank line → n < length line
    → 0 < position_or_len is_blank (drop n line)
long_at line n e lt = rw e (first_is_long line (omega arith))

-- the first word of a line, behind n blanks
pub first_word : (line : List ℕ) (n len : ℕ) (word rest : List ℕ) → n ≡ prefix_len is_blank line → n < length line
    → len ≡ position_or_len is_blank (drop n line)
    → word ≡ take len (drop n line) → rest ≡ drop len (drop n line) → words_of line ≡ word ∷ words_of rest
first_word line n len word rest e lt el ew er =
    let from = drop n line in
    let long : 0 < position_or_len is_blank from = long_at line n e lt in
    sym (words_of-blanks line) ∙ ap (λ k. words_of (drop k line)) (sym e) ∙ words_of_first from long
    ∙ ap (λ k. take k from ∷ words_of (drop k from)) (sym el)
    ∙ ap (λ l. l ∷ words_of (drop len from)) (sym ew) ∙ ap (λ l. word ∷ words_of l) (sym er)

-- a line of n octets has at most n + 1 words
pub words_of-few : (line : List ℕ) → length (words_of line) ≤ length line + 1
unfolding words_of
words_of-few line =
    let parts = slice_split is_blank line in
    omega (
      arith,
      length-filter (λ word. nat_lt 0 (length word)) parts,
      count_by-le-length (λ word. nat_lt 0 (length word)) parts,
      length-slice_split is_blank line,
      count_by-le-length is_blank line,
    )

-- ---- looking for a word's end

-- none of so many octets in front is a blank
pub record HasNoBlank (line : List ℕ) (len : ℕ) : Type 0 where
  pub within : len ≤ length line
  pub none : (k : ℕ) → k < len → is_blank (slice_index line k) ≡ false

-- an octet above every blank
pub not_blank : (octet : ℕ) → 32 < octet → is_blank octet ≡ false
not_blank octet h = grind (arith, nat_tests)

-- where a blank or the line's end follows, that is the word's length
pub word_ends : (line : List ℕ) (len : ℕ) → HasNoBlank line len
    → (len < length line → is_blank (slice_index line len) ≡ true) → len ≡ position_or_len is_blank line
word_ends line len front end = sym (position_or_len_is is_blank line len 0 front.within front.none end)

-- so many more octets that are no blanks
pub front_more : (line : List ℕ) (len n : ℕ) → HasNoBlank line len → len + n ≤ length line
    → ((i : ℕ) → i < n → is_blank (slice_index line (len + i)) ≡ false) → HasNoBlank line (len + n)
front_more line len n front room more = record { within = room; none = λ k lt. at k lt (cases_lt k len) }
  where
    at : (k : ℕ) → k < len + n → (k < len) ⊎ (len ≤ k) → is_blank (slice_index line k) ≡ false
    at k lt (inl before) = front.none k before
    at k lt (inr behind) =
        subst (λ j. is_blank (slice_index line j) ≡ false) (omega arith) (more (k - len) (omega arith))

-- ---- names

bytes_eq-swap : (xs ys : List ℕ) → bytes_eq xs ys ≡ bytes_eq ys xs
bytes_eq-swap [] [] = refl
bytes_eq-swap [] (y ∷ ys) = refl
bytes_eq-swap (x ∷ xs) [] = refl
bytes_eq-swap (x ∷ xs) (y ∷ ys) =
    let first : nat_eq x y ≡ nat_eq y x = grind (arith, nat_tests) in
    ap (λ b. b && bytes_eq xs ys) first ∙ ap (λ b. nat_eq y x && b) (bytes_eq-swap xs ys)

-- a word that begins with a name of its own length is that name
pub same_name : (word name : List ℕ) (begins : Bool) → length word ≡ length name
    → begins ≡ bytes_eq name (take (length name) word) → begins ≡ bytes_eq word name
same_name word name begins len is =
    is ∙ ap (bytes_eq name) (take_all (length name) word (omega arith)) ∙ bytes_eq-swap name word
