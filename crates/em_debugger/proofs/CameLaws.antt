-- How lines came out, as it is kept.
use Rattle.std.proofs.Common.{◌≡◌, ◌∙◌, ◌+◌, ◌<◌, ◌≤◌, ℕ, zero, suc, List, [], ◌∷◌, ◌++◌, length, refl, sym, ap, arith}
use Rattle.std.specs.Prelude.{◌≢◌, slice_get, slice_set, unwrap_or}
use Rattle.em_script.specs.declared.outcome.Outcome.{Outcome}
use Rattle.em_script.specs.declared.outcome.Outcome.TheVariants.{Silent}
use Rattle.em_debugger.specs.Came.{Comes, Stays, came_of}

-- a line that says nothing behind the last changes nothing
found-pushed : (xs : List Outcome) (k : ℕ)
    → unwrap_or (slice_get (xs ++ Silent ∷ []) k) Silent ≡ unwrap_or (slice_get xs k) Silent
found-pushed [] zero = refl
found-pushed [] (suc k) = refl
found-pushed (x ∷ xs) zero = refl
found-pushed (x ∷ xs) (suc k) = found-pushed xs k

pub came-pushed : (n : ℕ) (xs : List Outcome) → came_of n (xs ++ Silent ∷ []) ≡ came_of n xs
came-pushed zero xs = refl
came-pushed (suc k) xs = found-pushed xs k

-- one is put in the place of another
set-same : (xs : List Outcome) (i : ℕ) (o : Outcome) → i < length xs
    → unwrap_or (slice_get (slice_set xs i o) i) Silent ≡ o
set-same [] i o lt = absurd (omega arith)
set-same (x ∷ xs) zero o lt = refl
set-same (x ∷ xs) (suc i) o lt = set-same xs i o (omega arith)

set-other : (xs : List Outcome) (k i : ℕ) (o : Outcome) → k ≢ i
    → unwrap_or (slice_get (slice_set xs i o) k) Silent ≡ unwrap_or (slice_get xs k) Silent
set-other [] k i o ne = refl
set-other (x ∷ xs) zero zero o ne = absurd (ne refl)
set-other (x ∷ xs) zero (suc i) o ne = refl
set-other (x ∷ xs) (suc k) zero o ne = refl
set-other (x ∷ xs) (suc k) (suc i) o ne = set-other xs k i o (λ e. ne (ap suc e))

others-set : (xs : List Outcome) (k i : ℕ) (o : Outcome) → k ≢ suc i → came_of k (slice_set xs i o) ≡ came_of k xs
others-set xs zero i o ne = refl
others-set xs (suc k) i o ne = set-other xs k i o (λ same. ne (ap suc same))

-- how a line came out is put into the place that was made for it
pub comes_set : (old items new : List Outcome) (before : ℕ) (o : Outcome) → Stays old items → before + 1 ≤ length items
    → new ≡ slice_set items before o → Comes (before + 1) o old new
comes_set old items new before o stay within e =
    let one : before + 1 ≡ suc before = omega arith in
    let there : before < length items = omega (arith, within) in
    record {
      this = ap (λ l. came_of (before + 1) l) e ∙ ap (λ n. came_of n (slice_set items before o)) one
          ∙ set-same items before o there;
      others = λ n ne. ap (λ l. came_of n l) e ∙ others-set items n before o (λ same. ne (same ∙ sym one)) ∙ stay n;
    }
