-- A line in which no mark stands is what it says, and nothing stands behind that.
use Rattle.std.proofs.Common.{◌≡◌, ℕ, ◌&&◌, ◌==◌, ◌||◌, true, false, List, [], ◌∷◌, length, Option, Some, None, refl, ap, ◌∙◌}
use Rattle.std.specs.Prelude.{Bool, cond, find, if◌then◌else◌, slice_index}
use Rattle.std.specs.List.{range_with_len}
use Rattle.em_text.specs.Words.{words_of}
use Rattle.em_line.specs.Parts.{before, begins_at, behind, behind_of, first_place, front_of, marks_at, place_of}
use Rattle.em_line.specs.Parts.{said_before, said_in, stands_at, expected_in, source_in, is_comment_line}

-- where a test finds nothing, a narrower one finds nothing
find_fewer : (wide narrow : ℕ → Bool) (xs : List ℕ) → ((x : ℕ) → narrow x ≡ true → wide x ≡ true)
    → find wide xs ≡ None → find narrow xs ≡ None
find_fewer wide narrow [] sub none = refl
find_fewer wide narrow (x ∷ xs) sub none = by_test (wide x) refl (narrow x) refl none (find_fewer wide narrow xs sub) where
  by_test : (w : Bool) → wide x ≡ w → (n : Bool) → narrow x ≡ n → cond w (Some x) (find wide xs) ≡ None
      → (find wide xs ≡ None → find narrow xs ≡ None) → cond n (Some x) (find narrow xs) ≡ None
  by_test true ew n en none rest = cc
  by_test false ew true en none rest = let yes : wide x ≡ true = sub x en in cc
  by_test false ew false en none rest = rest none

none_stands : (octet : ℕ) (line : List ℕ) → ((at : ℕ) → stands_at octet line at ≡ true → marks_at line at ≡ true)
    → first_place (marks_at line) line ≡ None → place_of octet line ≡ None
none_stands octet line sub none =
    find_fewer (marks_at line) (stands_at octet line) (range_with_len 0 (length line)) sub none

-- none of the marks
pub record Unmarked (line : List ℕ) : Type 0 where
  pub equals : place_of 61 line ≡ None
  pub at : place_of 64 line ≡ None
  pub hash : place_of 35 line ≡ None

by_first : (x y p : Bool) → (x && p) ≡ true → ((x || y) && p) ≡ true
by_first true y p e = e
by_first false y p e = cc

by_second : (x y p : Bool) → (y && p) ≡ true → ((x || y) && p) ≡ true
by_second true true p e = e
by_second true false p e = cc
by_second false y p e = e

pub unmarked : (line : List ℕ) → first_place (marks_at line) line ≡ None → Unmarked line
unmarked line none = record {
  equals = none_stands 61 line
      (λ at t. by_first (slice_index line at == 61 || slice_index line at == 64) _ (begins_at line at)
      (by_first (slice_index line at == 61) (slice_index line at == 64) (begins_at line at) t)) none;
  at = none_stands 64 line
      (λ at t. by_first (slice_index line at == 61 || slice_index line at == 64) _ (begins_at line at)
      (by_second (slice_index line at == 61) (slice_index line at == 64) (begins_at line at) t)) none;
  hash = none_stands 35 line
      (λ at t. by_second (slice_index line at == 61 || slice_index line at == 64) (slice_index line at == 35)
      (begins_at line at) t) none;
}

pub says_all : (line : List ℕ) → first_place (marks_at line) line ≡ None → said_in line ≡ line
says_all line none = by_comment (is_comment_line (words_of line)) (first_place (marks_at line) line) none where
  by_comment : (b : Bool) (o : Option ℕ) → o ≡ None → said_before line (if b then None else o) ≡ line
  by_comment true o e = refl
  by_comment false o e = rw e refl

pub nothing_behind : (octet : ℕ) (line : List ℕ) → place_of octet line ≡ None → behind_of octet line ≡ None
nothing_behind octet line none = ap (behind line) none

pub all_before : (octet : ℕ) (line : List ℕ) → place_of octet line ≡ None → front_of octet line ≡ line
all_before octet line none = ap (before line) none

pub expects_nothing : (line : List ℕ) → Unmarked line → expected_in line ≡ None
expects_nothing line u =
    let front : front_of 64 (front_of 35 line) ≡ line =
    ap (front_of 64) (all_before 35 line u.hash) ∙ all_before 64 line u.at in
    ap (behind_of 61) front ∙ nothing_behind 61 line u.equals

pub comes_from_nowhere : (line : List ℕ) → Unmarked line → source_in line ≡ None
comes_from_nowhere line u = ap (behind_of 64) (all_before 35 line u.hash) ∙ nothing_behind 64 line u.at
