-- Taking the first line off a script.
use Rattle.std.proofs.Common.{◌≡◌, ℕ, ◌<◌, ◌≤◌, Bool, true, false, cond, List, [], ◌∷◌, length, refl, ap, ◌∙◌, arith}
use Rattle.std.proofs.Common.{nat_lt, ◌+◌, ◌-◌, zero, suc, get_or, if◌then◌else◌}
use Rattle.std.specs.List.{slice_split, position_or_len, before_first, after_first, onto_first}
use Rattle.std.proofs.lemmas.List.Splits.{slice_split_none, slice_split_first}
use Rattle.std.proofs.lemmas.List.Sums.{fails_before_first}
use Rattle.std.proofs.lemmas.Bool.{lt-ltb}
use Rattle.em_text.specs.Lines.{lines_of, is_newline, without_empty_last}
use Rattle.std.proofs.lemmas.List.Sums.{position_or_len_is}
use Rattle.memchr.specs.Find.{places, places_from}
use Rattle.em_text.proofs.FrontLemmas.{below_next}

-- there is always a part
first_part : (p : ℕ → Bool) (xs : List ℕ) → (head : List ℕ) × (tail : List (List ℕ)) × (slice_split p xs ≡ head ∷ tail)
first_part p [] = ([], [], refl)
first_part p (x ∷ xs) =
    let more = slice_split p xs in
    elim (p x) as (λ b.
    (head : List ℕ) × (tail : List (List ℕ)) × (cond b ([] ∷ more) (onto_first x more) ≡ head ∷ tail)) [
      | true ↦ ([], slice_split p xs, refl)
      | false ↦ let rest = first_part p xs in (x ∷ rest.0, rest.1, ap (onto_first x) rest.2)
    ]

-- a part before others is kept
without_empty_last-cons : (part : List ℕ) (parts : List (List ℕ)) (head : List ℕ) (tail : List (List ℕ))
    → parts ≡ head ∷ tail → without_empty_last (part ∷ parts) ≡ part ∷ without_empty_last parts
without_empty_last-cons part parts head tail e = rw e refl

-- where a newline stands, the first line is what stands before it
pub lines_of_first : (xs : List ℕ) → position_or_len is_newline xs < length xs
    → lines_of xs ≡ before_first is_newline xs ∷ lines_of (after_first is_newline xs)
unfolding lines_of
lines_of_first xs h =
    let rest = first_part is_newline (after_first is_newline xs) in
    ap without_empty_last (slice_split_first is_newline xs 0 h)
    ∙ without_empty_last-cons _ _ rest.0 rest.1 rest.2

-- an empty script has no line
pub lines_of-nil : lines_of [] ≡ []
unfolding lines_of
lines_of-nil = refl

-- a last part that is not empty is kept
nonempty : (xs : List ℕ) → 0 < length xs → cond (nat_lt 0 (length xs)) (xs ∷ []) [] ≡ xs ∷ []
nonempty xs h = rw (lt-ltb 0 (length xs) h) refl

-- where none stands, the script is one line
pub lines_of_last : (xs : List ℕ) → 0 < length xs → length xs ≤ position_or_len is_newline xs
    → lines_of xs ≡ xs ∷ lines_of []
unfolding lines_of
lines_of_last xs some h =
    let none = slice_split_none is_newline xs (λ k d lt. fails_before_first is_newline xs k d (omega arith)) in
    ap without_empty_last none
    ∙ nonempty xs some

-- ---- the places of newlines

-- the first of these places is where the first line ends
abbrev pub EndsFirst : List ℕ → List ℕ → Type 0
EndsFirst script [] = position_or_len is_newline script ≡ length script
EndsFirst script (place ∷ places) = (position_or_len is_newline script ≡ place) × (place < length script)

-- the places from one on, before which there is no newline
first_from : (script : List ℕ) (n i : ℕ) → i + n ≡ length script
    → ((k : ℕ) → k < i → is_newline (get_or script k 0) ≡ false) → EndsFirst script (places_from is_newline script i n)
unfolding places_from
first_from script zero i all before =
    let whole : i ≡ length script = omega (arith, all) in
    position_or_len_is is_newline script i 0 (omega arith) before (λ lt. absurd (omega arith)) ∙ whole
first_from script (suc n) i all before =
    by (is_newline (get_or script i 0)) refl
    (λ none. first_from script n (i + 1) (omega arith)
    (below_next (λ k. is_newline (get_or script k 0) ≡ false) i before none))
  where
    by : (b : Bool) → is_newline (get_or script i 0) ≡ b
        → (is_newline (get_or script i 0) ≡ false → EndsFirst script (places_from is_newline script (i + 1) n))
        → EndsFirst script (if b then i ∷ places_from is_newline script (i + 1) n
        else places_from is_newline script (i + 1) n)
    by true here later =
        (position_or_len_is is_newline script i 0 (omega arith) before (λ lt. here), omega arith)
    by false none later = later none

pub first_newline : (script : List ℕ) → EndsFirst script (places is_newline script)
first_newline script =
    first_from script (length script - 0) 0 (omega arith) (λ k lt. absurd (omega arith))
