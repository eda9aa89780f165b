-- The parts of a line that is put together of what it says, an answer and a place.
use Rattle.std.proofs.Common.{◌≡◌, ℕ, zero, suc, ◌+◌, ◌-◌, ◌<◌, ◌≤◌, Bool, true, false, List, [], ◌∷◌, ◌++◌}
use Rattle.std.proofs.Common.{length, get_or, take, drop, Option, Some, None, refl, ap, ◌∙◌, sym, arith, inl, inr}
use Rattle.std.proofs.Common.{subst, append_assoc, length-append, append-nil}
use Rattle.std.specs.Prelude.{if◌then◌else◌, ◌==◌, ◌&&◌, ◌||◌, not, nat_lt, find, slice_index, codes}
use Rattle.std.specs.List.{All, list_all, range_with_len, prefix_len, suffix_len, position_or_len}
use Rattle.std.proofs.Math.Seq.{get_or-append_seam, take-append_seam, take-append-add, drop-append-add}
use Rattle.std.proofs.lemmas.List.{get_or_append_left, get_or-append-add, take_all}
use Rattle.std.proofs.lemmas.List.Elements.{All-append}
use Rattle.std.proofs.lemmas.List.Sums.{suffix_len_is, prefix_len-drop_no, AllPass-from_list_all}
use Rattle.std.proofs.lemmas.List.Sums.{position_or_len_is}
use Rattle.std.proofs.lemmas.Bool.{and_parts, not-true, cases_eq, cases_lt, ne_eqb, or_parts, ltb-true}
use Rattle.em_text.specs.Lines.{is_newline, lines_of}
use Rattle.em_text.proofs.LinesLemmas.{lines_of_first}
use Rattle.em_text.proofs.WordsLemmas.{words_of_first}
use Rattle.em_text.specs.Words.{is_blank, words_of}
use Rattle.em_kept.specs.Source.{placed}
use Rattle.em_kept.specs.Kept.{expected}
use Rattle.em_line.specs.Parts.{before, begins_at, behind, behind_of, first_place, front_of, is_mark, marks_at, place_of}
use Rattle.em_line.specs.Parts.{stands_at, without_blanks, without_end, is_comment_line, said_before, said_in, expected_in}
use Rattle.em_line.specs.Parts.{source_in, comment_in}

-- ---- the first place

find_at : (p : ℕ → Bool) (from n at : ℕ) → from ≤ at → at < from + n
    → ((k : ℕ) → from ≤ k → k < at → p k ≡ false) → p at ≡ true → find p (range_with_len from n) ≡ Some at
find_at p from zero at low high others here = absurd (omega arith)
find_at p from (suc n) at low high others here = elim (cases_eq from at) [
  | inl same ↦ let yes : p from ≡ true = ap p same ∙ here in rw yes (ap Some same)
  | inr other ↦ let no : p from ≡ false = others from (omega arith) (omega (arith, other)) in
      rw no (find_at p (from + 1) n at (omega (arith, other)) (omega arith) (λ k l h. others k (omega arith) h) here)
]

pub find_none : (p : ℕ → Bool) (from n : ℕ) → ((k : ℕ) → from ≤ k → k < from + n → p k ≡ false)
    → find p (range_with_len from n) ≡ None
find_none p from zero none = refl
find_none p from (suc n) none =
    rw (none from (omega arith) (omega arith)) (find_none p (from + 1) n (λ k l h. none k (omega arith) (omega arith)))

-- ---- where a part begins

-- an octet does not stand in a text
abbrev pub Lacks : ℕ → List ℕ → Type 0
Lacks octet xs = All (λ x. (x == octet) ≡ false) xs

or_true : (b : Bool) → (b || true) ≡ true
or_true true = refl
or_true false = refl

both : (a b : Bool) → a ≡ true → b ≡ true → (a && b) ≡ true
both a b ea eb = rw (ea, eb) refl

-- behind a text and a space a word begins
begins_behind : (front back : List ℕ) → begins_at (front ++ 32 ∷ back) (length front + 1) ≡ true
begins_behind front back =
    let at : length front + 1 - 1 ≡ length front = omega arith in
    let space : slice_index (front ++ 32 ∷ back) (length front) ≡ 32 = get_or-append_seam front 32 back 0 in
    rw (at, space) (or_true (length front + 1 == 0))

next_of : (front back : List ℕ) (octet : ℕ) → slice_index (front ++ 32 ∷ octet ∷ back) (length front + 1) ≡ octet
next_of front back octet = get_or-append-add front (32 ∷ octet ∷ back) 1 0

-- an octet of such a text, up to the space
lacks_before : (test : ℕ → Bool) (front back : List ℕ) (k : ℕ) → All (λ x. test x ≡ false) front → test 32 ≡ false
    → k < length front + 1 → test (slice_index (front ++ 32 ∷ back) k) ≡ false
lacks_before test front back k none space lt = elim (cases_lt k (length front)) [
  | inl within ↦ ap test (get_or_append_left front (32 ∷ back) 0 k within) ∙ none k 0 within
  | inr past ↦ let is : k ≡ length front = omega (arith, past) in
      ap (λ j. test (slice_index (front ++ 32 ∷ back) j)) is ∙ ap test (get_or-append_seam front 32 back 0) ∙ space
]

length_cut : (front back : List ℕ) (octet : ℕ) → length front + 1 < length (front ++ 32 ∷ octet ∷ back)
length_cut front back octet = omega (arith, length-append front (32 ∷ octet ∷ back))

pub and_no : (a b : Bool) → a ≡ false → (a && b) ≡ false
and_no a b e = rw e refl

place_cut : (octet : ℕ) (front back : List ℕ) → Lacks octet front → (32 == octet) ≡ false → (octet == octet) ≡ true
    → place_of octet (front ++ 32 ∷ octet ∷ back) ≡ Some (length front + 1)
place_cut octet front back lacks space same =
    let text = front ++ 32 ∷ octet ∷ back in
    find_at (stands_at octet text) 0 (length text) (length front + 1) (omega arith)
    (omega (arith, length_cut front back octet))
    (λ k l h. and_no _ _ (lacks_before (λ x. x == octet) front (octet ∷ back) k lacks space h))
    (both _ _ (ap (λ x. x == octet) (next_of front back octet) ∙ same) (begins_behind front (octet ∷ back)))

mark_cut : (said back : List ℕ) → All (λ x. is_mark x ≡ false) said
    → first_place (marks_at (said ++ 32 ∷ 61 ∷ back)) (said ++ 32 ∷ 61 ∷ back) ≡ Some (length said + 1)
mark_cut said back lacks =
    let text = said ++ 32 ∷ 61 ∷ back in
    find_at (marks_at text) 0 (length text) (length said + 1) (omega arith) (omega (arith, length_cut said back 61))
    (λ k l h. and_no _ _ (lacks_before is_mark said (61 ∷ back) k lacks refl h))
    (both _ _ (ap is_mark (next_of said back 61)) (begins_behind said (61 ∷ back)))

take_cut : (front back : List ℕ) → take (length front + 1) (front ++ 32 ∷ back) ≡ front ++ 32 ∷ []
take_cut front back = take-append-add front (32 ∷ back) 1

front_cut : (octet : ℕ) (front back : List ℕ) → Lacks octet front → (32 == octet) ≡ false → (octet == octet) ≡ true
    → front_of octet (front ++ 32 ∷ octet ∷ back) ≡ front ++ 32 ∷ []
front_cut octet front back lacks space same =
    ap (before (front ++ 32 ∷ octet ∷ back)) (place_cut octet front back lacks space same)
    ∙ take_cut front (octet ∷ back)

behind_cut : (octet : ℕ) (front back : List ℕ) → Lacks octet front → (32 == octet) ≡ false → (octet == octet) ≡ true
    → behind_of octet (front ++ 32 ∷ octet ∷ back) ≡ Some (without_blanks back)
behind_cut octet front back lacks space same =
    let text = front ++ 32 ∷ octet ∷ back in
    let at : length front + 1 + 1 ≡ length front + 2 = omega arith in
    ap (behind text) (place_cut octet front back lacks space same)
    ∙ ap (λ n. Some (without_blanks (drop n text))) at
    ∙ ap (λ l. Some (without_blanks l)) (drop-append-add front (32 ∷ octet ∷ back) 2)

-- it begins no word of a text
abbrev pub BeginsNone : ℕ → List ℕ → Type 0
BeginsNone octet text = (k : ℕ) → k < length text → stands_at octet text k ≡ false

front_whole : (octet : ℕ) (text : List ℕ) → BeginsNone octet text → front_of octet text ≡ text
front_whole octet text none =
    ap (before text) (find_none (stands_at octet text) 0 (length text) (λ k l h. none k (omega arith)))

behind_none : (octet : ℕ) (text : List ℕ) → BeginsNone octet text → behind_of octet text ≡ None
behind_none octet text none =
    ap (behind text) (find_none (stands_at octet text) 0 (length text) (λ k l h. none k (omega arith)))

pub begins_none : (octet : ℕ) (text : List ℕ) → Lacks octet text → BeginsNone octet text
begins_none octet text lacks k lt = and_no _ _ (lacks k 0 lt)

-- nor of a text before which it does not stand
begins_none_behind : (octet : ℕ) (front text : List ℕ) → Lacks octet front → BeginsNone octet text
    → BeginsNone octet (front ++ text)
begins_none_behind octet front text lacks none k lt = elim (cases_lt k (length front)) [
  | inl within ↦ and_no _ _ (ap (λ x. x == octet) (get_or_append_left front text 0 k within) ∙ lacks k 0 within)
  | inr past ↦
      let n = k - length front in
      let is : k ≡ length front + n = omega (arith, past) in
      let here : slice_index (front ++ text) k ≡ slice_index text n =
      ap (slice_index (front ++ text)) is ∙ get_or-append-add front text n 0 in
      elim (cases_lt 0 n) [
        | inl later ↦
            let before_is : k - 1 ≡ length front + (n - 1) = omega (arith, later, is) in
            let there : slice_index (front ++ text) (k - 1) ≡ slice_index text (n - 1) =
            ap (slice_index (front ++ text)) before_is ∙ get_or-append-add front text (n - 1) 0 in
            let some_k : (k == 0) ≡ false = ne_eqb k 0 (omega (arith, later, is)) in
            let some_n : (n == 0) ≡ false = ne_eqb n 0 (omega (arith, later)) in
            let inner : ((slice_index text n == octet) && ((n == 0) || is_blank (slice_index text (n - 1)))) ≡ false =
            none n (omega (arith, is, lt, length-append front text)) in
            rw (here, there, some_k) (rw some_n at inner)
        | inr first ↦
            let zeroth : n ≡ 0 = omega (arith, first) in
            let inner : (slice_index text n == octet) ≡ false =
            first_no (slice_index text n == octet) (is_blank (slice_index text (n - 1))) (n == 0) (ap (λ j. j == 0) zeroth)
            (none n (omega (arith, is, lt, length-append front text))) in
            and_no _ _ (ap (λ x. x == octet) here ∙ inner)
      ]
] where
  first_no : (a b z : Bool) → z ≡ true → (a && (z || b)) ≡ false → a ≡ false
  first_no true b true e h = h
  first_no true b false e h = cc
  first_no false b z e h = refl

-- ---- blanks at the ends

-- a text that begins and ends with no blank
pub record IsSolid (xs : List ℕ) : Type 0 where
  pub some : 0 < length xs
  pub first : is_blank (slice_index xs 0) ≡ false
  pub last : is_blank (slice_index xs (length xs - 1)) ≡ false

end_solid : (xs : List ℕ) → IsSolid xs → without_end xs ≡ xs
end_solid xs is =
    let none : suffix_len is_blank xs ≡ length xs - length xs =
    suffix_len_is is_blank xs (length xs) 0 (omega arith) (λ k l h. absurd (omega arith)) (λ h. is.last) in
    let all : length xs - suffix_len is_blank xs ≡ length xs = omega (arith, none) in
    ap (λ n. take n xs) all ∙ take_all (length xs) xs (omega arith)

end_space : (xs : List ℕ) → IsSolid xs → without_end (xs ++ 32 ∷ []) ≡ xs
end_space xs is =
    let text = xs ++ 32 ∷ [] in
    let len : length text ≡ length xs + 1 = length-append xs (32 ∷ []) in
    let one : suffix_len is_blank text ≡ length text - length xs =
    suffix_len_is is_blank text (length xs) 0 (omega (arith, len))
    (λ k l h. let at : k ≡ length xs = omega (arith, len) in
    ap (λ j. is_blank (slice_index text j)) at ∙ ap is_blank (get_or-append_seam xs 32 [] 0))
    (λ h. ap is_blank (get_or_append_left xs (32 ∷ []) 0 (length xs - 1) (omega arith)) ∙ is.last) in
    let all : length text - suffix_len is_blank text ≡ length xs = omega (arith, one, len) in
    ap (λ n. take n text) all ∙ take-append_seam xs (32 ∷ [])

no_blanks : (xs ys : List ℕ) → IsSolid xs → prefix_len is_blank (xs ++ ys) ≡ 0
no_blanks xs ys is =
    prefix_len-drop_no is_blank (xs ++ ys) 0 0 (omega (arith, length-append xs ys, is.some))
    (ap is_blank (get_or_append_left xs ys 0 0 is.some) ∙ is.first)

trimmed_space : (xs : List ℕ) → IsSolid xs → without_blanks (xs ++ 32 ∷ []) ≡ xs
trimmed_space xs is =
    ap (λ n. without_end (drop n (xs ++ 32 ∷ []))) (no_blanks xs (32 ∷ []) is) ∙ end_space xs is

trimmed : (xs : List ℕ) → IsSolid xs → without_blanks xs ≡ xs
trimmed xs is =
    let none : prefix_len is_blank xs ≡ 0 = ap (prefix_len is_blank) (sym (append-nil xs)) ∙ no_blanks xs [] is in
    ap (λ n. without_end (drop n xs)) none ∙ end_solid xs is

-- ---- ends of texts

-- a text whose last octet is no blank
pub record EndsWell (xs : List ℕ) : Type 0 where
  pub some : 0 < length xs
  pub last : is_blank (slice_index xs (length xs - 1)) ≡ false

pub word_ends : (xs : List ℕ) → All (λ x. is_blank x ≡ false) xs → 0 < length xs → EndsWell xs
word_ends xs solid some = record { some = some; last = solid (length xs - 1) 0 (omega (arith, some)) }

pub ends_behind : (front xs : List ℕ) → EndsWell xs → EndsWell (front ++ xs)
ends_behind front xs is =
    let len : length (front ++ xs) ≡ length front + length xs = length-append front xs in
    let at : length (front ++ xs) - 1 ≡ length front + (length xs - 1) = omega (arith, len, is.some) in
    record {
      some = omega (arith, len, is.some);
      last = ap (λ k. is_blank (slice_index (front ++ xs) k)) at
          ∙ ap is_blank (get_or-append-add front xs (length xs - 1) 0) ∙ is.last;
    }

pub solid_of : (x : ℕ) (xs : List ℕ) → is_blank x ≡ false → EndsWell (x ∷ xs) → IsSolid (x ∷ xs)
solid_of x xs first is = record { some = is.some; first = first; last = is.last }

-- ---- lines

-- where no newline stands in it, the line that a newline ends is the first
pub lines_cut : (line rest : List ℕ) → All (λ x. is_newline x ≡ false) line
    → lines_of (line ++ 10 ∷ rest) ≡ line ∷ lines_of rest
lines_cut line rest none =
    let text = line ++ 10 ∷ rest in
    let len : length text ≡ length line + length (10 ∷ rest) = length-append line (10 ∷ rest) in
    let at : position_or_len is_newline text ≡ length line =
    position_or_len_is is_newline text (length line) 0 (omega (arith, len))
    (λ k h. ap is_newline (get_or_append_left line (10 ∷ rest) 0 k h) ∙ none k 0 h)
    (λ h. ap is_newline (get_or-append_seam line 10 rest 0)) in
    lines_of_first text (omega (arith, at, len))
    ∙ ap (λ n. take n text ∷ lines_of (drop (n + 1) text)) at
    ∙ ap (λ l. l ∷ lines_of (drop (length line + 1) text)) (take-append_seam line (10 ∷ rest))
    ∙ ap (λ l. line ∷ lines_of l) (drop-append-add line (10 ∷ rest) 1)

-- ---- a line of parts

-- neither a control octet nor a mark of a part
abbrev pub is_quiet : ℕ → Bool
is_quiet x = nat_lt 31 x && not (is_mark x)

-- what stands before a place is of such octets
pub record IsPart (xs : List ℕ) : Type 0 where
  pub quiet : All (λ x. is_quiet x ≡ true) xs
  pub solid : IsSolid xs

-- a place has no newline, and no hash that begins a word
pub record IsPlace (xs : List ℕ) : Type 0 where
  pub solid : IsSolid xs
  pub hash : BeginsNone 35 xs
  pub line : All (λ x. is_newline x ≡ false) xs

abbrev pub IsPlaceIn : Option (List ℕ) → Type 0
IsPlaceIn None = Unit {0}
IsPlaceIn (Some place) = IsPlace place

no_mark : (x : ℕ) → is_quiet x ≡ true → is_mark x ≡ false
no_mark x h = not-true (is_mark x) (and_parts (nat_lt 31 x) (not (is_mark x)) h).1

pub no_newline : (x : ℕ) → is_quiet x ≡ true → is_newline x ≡ false
no_newline x h =
    let above : 31 < x = ltb-true 31 x (and_parts (nat_lt 31 x) (not (is_mark x)) h).0 in
    ne_eqb x 10 (λ e. absurd (omega (arith, above, e)))

no_equals : (x : ℕ) → is_quiet x ≡ true → (x == 61) ≡ false
no_equals x h = (or_parts (x == 61) _ (or_parts _ (x == 35) (no_mark x h)).0).0

no_at : (x : ℕ) → is_quiet x ≡ true → (x == 64) ≡ false
no_at x h = (or_parts _ (x == 64) (or_parts _ (x == 35) (no_mark x h)).0).1

pub no_hash : (x : ℕ) → is_quiet x ≡ true → (x == 35) ≡ false
no_hash x h = (or_parts _ (x == 35) (no_mark x h)).1

-- what holds of quiet octets holds of a text of them
pub all_quiet : (P : ℕ → Type 0) (xs : List ℕ) → ((x : ℕ) → is_quiet x ≡ true → P x) → All (λ x. is_quiet x ≡ true) xs
    → All P xs
all_quiet P xs of h k d lt = of (get_or xs k d) (h k d lt)

-- a test that fails at each octet of a literal
pub all_not : (test : ℕ → Bool) (xs : List ℕ) → list_all (λ x. not (test x)) xs ≡ true → All (λ x. test x ≡ false) xs
all_not test xs h k d lt = not-true _ (AllPass-from_list_all (λ x. not (test x)) xs h k d lt)

pub all_literal : (xs : List ℕ) → list_all is_quiet xs ≡ true → All (λ x. is_quiet x ≡ true) xs
all_literal xs h = AllPass-from_list_all is_quiet xs h

-- an octet that is a space or quiet, in all that stands before a place
before_place : (P : ℕ → Type 0) (said answer rest : List ℕ) → All P said → All P answer → All P rest → P 32 → P 61
    → All P (said ++ (codes " =" ++ (answer ++ rest)))
before_place P said answer rest s a r space equals =
    All-append P said (codes " =" ++ (answer ++ rest)) s
    (All-append P (codes " =") (answer ++ rest) sign (All-append P answer rest a r))
  where
    sign : All P (codes " =")
    sign zero d lt = space
    sign (suc zero) d lt = equals
    sign (suc (suc k)) d lt = absurd (omega arith)

-- what is said, and behind that an answer and a place
abbrev pub line_with : List ℕ → List ℕ → Option (List ℕ) → List ℕ
line_with said answer place = said ++ (expected answer ++ placed place)

hash_none : (said answer : List ℕ) (place : Option (List ℕ)) → IsPart said → IsPart answer → IsPlaceIn place
    → BeginsNone 35 (line_with said answer place)
hash_none said answer None s a p =
    begins_none 35 (line_with said answer None)
    (before_place (λ x. (x == 35) ≡ false) said answer [] (all_quiet _ said no_hash s.quiet)
    (all_quiet _ answer no_hash a.quiet) (λ k d lt. absurd (omega arith)) refl refl)
hash_none said answer (Some place) s a p =
    let front = said ++ (codes " =" ++ (answer ++ codes " @")) in
    let cut : front ++ place ≡ line_with said answer (Some place) =
    append_assoc said (codes " =" ++ (answer ++ codes " @")) place
    ∙ ap (λ l. said ++ (codes " =" ++ l)) (append_assoc answer (codes " @") place) in
    subst (λ l. BeginsNone 35 l) cut
    (begins_none_behind 35 front place
    (before_place (λ x. (x == 35) ≡ false) said answer (codes " @") (all_quiet _ said no_hash s.quiet)
    (all_quiet _ answer no_hash a.quiet) sign refl refl) p.hash)
  where
    sign : All (λ x. (x == 35) ≡ false) (codes " @")
    sign zero d lt = refl
    sign (suc zero) d lt = refl
    sign (suc (suc k)) d lt = absurd (omega arith)

-- ---- the parts

-- what is read in a line
pub record ReadsAs (line said answer : List ℕ) (place : Option (List ℕ)) : Type 0 where
  pub says : said_in line ≡ said
  pub expects : expected_in line ≡ Some answer
  pub comes_from : source_in line ≡ place
  pub comments : comment_in line ≡ None

said_read : (said back : List ℕ) → IsPart said → is_comment_line (words_of (said ++ 32 ∷ 61 ∷ back)) ≡ false
    → said_in (said ++ 32 ∷ 61 ∷ back) ≡ said
said_read said back is first =
    let line = said ++ 32 ∷ 61 ∷ back in
    ap (λ b. said_before line (if b then None else first_place (marks_at line) line)) first
    ∙ ap (said_before line) (mark_cut said back (all_quiet _ said no_mark is.quiet))
    ∙ ap without_end (take_cut said (61 ∷ back)) ∙ end_space said is.solid

expected_read : (said answer : List ℕ) (place : Option (List ℕ)) → IsPart said → IsPart answer → IsPlaceIn place
    → behind_of 61 (front_of 64 (line_with said answer place)) ≡ Some answer
expected_read said answer None s a p =
    let line = line_with said answer None in
    let lacks : Lacks 64 line =
    before_place (λ x. (x == 64) ≡ false) said answer [] (all_quiet _ said no_at s.quiet)
    (all_quiet _ answer no_at a.quiet) (λ k d lt. absurd (omega arith)) refl refl in
    ap (behind_of 61) (front_whole 64 line (begins_none 64 line lacks))
    ∙ behind_cut 61 said (answer ++ []) (all_quiet _ said no_equals s.quiet) refl refl
    ∙ ap (λ l. Some (without_blanks l)) (append-nil answer) ∙ ap Some (trimmed answer a.solid)
expected_read said answer (Some place) s a p =
    let front = said ++ (codes " =" ++ answer) in
    let lacks : Lacks 64 front =
    All-append (λ x. (x == 64) ≡ false) said (codes " =" ++ answer) (all_quiet _ said no_at s.quiet)
    (All-append (λ x. (x == 64) ≡ false) (codes " =") answer sign (all_quiet _ answer no_at a.quiet)) in
    let cut : line_with said answer (Some place) ≡ front ++ 32 ∷ 64 ∷ place =
    sym (append_assoc said (codes " =" ++ answer) (codes " @" ++ place)) in
    let again : front ++ 32 ∷ [] ≡ said ++ 32 ∷ 61 ∷ (answer ++ 32 ∷ []) =
    append_assoc said (codes " =" ++ answer) (32 ∷ []) in
    ap (λ l. behind_of 61 (front_of 64 l)) cut ∙ ap (behind_of 61) (front_cut 64 front place lacks refl refl)
    ∙ ap (behind_of 61) again
    ∙ behind_cut 61 said (answer ++ 32 ∷ []) (all_quiet _ said no_equals s.quiet) refl refl
    ∙ ap Some (trimmed_space answer a.solid)
  where
    sign : All (λ x. (x == 64) ≡ false) (codes " =")
    sign zero d lt = refl
    sign (suc zero) d lt = refl
    sign (suc (suc k)) d lt = absurd (omega arith)

source_read : (said answer : List ℕ) (place : Option (List ℕ)) → IsPart said → IsPart answer → IsPlaceIn place
    → behind_of 64 (line_with said answer place) ≡ place
source_read said answer None s a p =
    let line = line_with said answer None in
    let lacks : Lacks 64 line =
    before_place (λ x. (x == 64) ≡ false) said answer [] (all_quiet _ said no_at s.quiet)
    (all_quiet _ answer no_at a.quiet) (λ k d lt. absurd (omega arith)) refl refl in
    behind_none 64 line (begins_none 64 line lacks)
source_read said answer (Some place) s a p =
    let front = said ++ (codes " =" ++ answer) in
    let lacks : Lacks 64 front =
    All-append (λ x. (x == 64) ≡ false) said (codes " =" ++ answer) (all_quiet _ said no_at s.quiet)
    (All-append (λ x. (x == 64) ≡ false) (codes " =") answer sign (all_quiet _ answer no_at a.quiet)) in
    let cut : line_with said answer (Some place) ≡ front ++ 32 ∷ 64 ∷ place =
    sym (append_assoc said (codes " =" ++ answer) (codes " @" ++ place)) in
    ap (behind_of 64) cut ∙ behind_cut 64 front place lacks refl refl ∙ ap Some (trimmed place p.solid)
  where
    sign : All (λ x. (x == 64) ≡ false) (codes " =")
    sign zero d lt = refl
    sign (suc zero) d lt = refl
    sign (suc (suc k)) d lt = absurd (omega arith)

-- a line that is put together of them has these parts
pub line_reads : (said answer : List ℕ) (place : Option (List ℕ)) → IsPart said → IsPart answer → IsPlaceIn place
    → is_comment_line (words_of (line_with said answer place)) ≡ false
    → ReadsAs (line_with said answer place) said answer place
line_reads said answer place s a p first =
    let line = line_with said answer place in
    let hash = hash_none said answer place s a p in
    let whole : front_of 35 line ≡ line = front_whole 35 line hash in
    record {
      says = said_read said (answer ++ placed place) s first;
      expects = ap (λ l. behind_of 61 (front_of 64 l)) whole ∙ expected_read said answer place s a p;
      comes_from = ap (behind_of 64) whole ∙ source_read said answer place s a p;
      comments = behind_none 35 line hash;
    }

-- and no newline, where none stands in what is said
pub line_whole : (said answer : List ℕ) (place : Option (List ℕ)) → All (λ x. is_newline x ≡ false) said → IsPart answer
    → IsPlaceIn place → All (λ x. is_newline x ≡ false) (line_with said answer place)
line_whole said answer None s a p =
    before_place (λ x. is_newline x ≡ false) said answer [] s (all_quiet _ answer no_newline a.quiet)
    (λ k d lt. absurd (omega arith)) refl refl
line_whole said answer (Some place) s a p =
    before_place (λ x. is_newline x ≡ false) said answer (codes " @" ++ place) s
    (all_quiet _ answer no_newline a.quiet)
    (All-append (λ x. is_newline x ≡ false) (codes " @") place sign p.line) refl refl
  where
    sign : All (λ x. is_newline x ≡ false) (codes " @")
    sign zero d lt = refl
    sign (suc zero) d lt = refl
    sign (suc (suc k)) d lt = absurd (omega arith)

-- ---- the first word of a line

pub first_word : (x : ℕ) (xs : List ℕ) → is_blank x ≡ false → words_of (x ∷ xs)
    ≡ (x ∷ take (position_or_len is_blank xs) xs) ∷ words_of (drop (position_or_len is_blank xs) xs)
first_word x xs solid =
    let k = position_or_len is_blank xs in
    let one : position_or_len is_blank (x ∷ xs) ≡ 1 + k = rw solid refl in
    let at : position_or_len is_blank (x ∷ xs) ≡ suc k = omega (arith, one) in
    words_of_first (x ∷ xs) (omega (arith, one))
    ∙ ap (λ n. take n (x ∷ xs) ∷ words_of (drop n (x ∷ xs))) at

pub no_comment : (x : ℕ) (xs : List ℕ) → is_blank x ≡ false → (x == 35) ≡ false
    → is_comment_line (words_of (x ∷ xs)) ≡ false
no_comment x xs solid other = ap is_comment_line (first_word x xs solid) ∙ other
