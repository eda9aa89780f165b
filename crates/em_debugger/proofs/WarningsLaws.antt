-- What the rules said of the lines, as it is kept.
use Rattle.std.proofs.Common.{◌≡◌, ◌∙◌, ℕ, zero, suc, ◌<◌, List, [], ◌∷◌, ◌++◌, length, refl, ap, arith, Option}
use Rattle.std.specs.Prelude.{◌≢◌, None, get_or, slice_set}
use Rattle.em_warnings.specs.declared.warning.Warning.{Warning}
use Rattle.em_debugger.specs.Warnings.{Said, SaysSo, StaySaid, opened, said_behind, told_by}

-- nothing behind the last changes nothing
pub said-pushed : (xs : List Said) (k : ℕ) → said_behind k (xs ++ None ∷ []) ≡ said_behind k xs
said-pushed [] zero = refl
said-pushed [] (suc k) = refl
said-pushed (x ∷ xs) zero = refl
said-pushed (x ∷ xs) (suc k) = said-pushed xs k

-- one is put in the place of another
set-same : (xs : List Said) (i : ℕ) (s : Said) → i < length xs → said_behind i (slice_set xs i s) ≡ opened s
set-same [] i s lt = absurd (omega arith)
set-same (x ∷ xs) zero s lt = refl
set-same (x ∷ xs) (suc i) s lt = set-same xs i s (omega arith)

set-other : (xs : List Said) (k i : ℕ) (s : Said) → k ≢ i → said_behind k (slice_set xs i s) ≡ said_behind k xs
set-other [] k i s ne = refl
set-other (x ∷ xs) zero zero s ne = absurd (ne refl)
set-other (x ∷ xs) zero (suc i) s ne = refl
set-other (x ∷ xs) (suc k) zero s ne = refl
set-other (x ∷ xs) (suc k) (suc i) s ne = set-other xs k i s (λ e. ne (ap suc e))

-- what they said of a line is put into the place that was made for it
pub says_set : (old items new : List Said) (k : ℕ) (s : Said) (found : Option (List (Option Warning)))
    → StaySaid old items → k < length items → new ≡ slice_set items k s → opened s ≡ told_by found
    → SaysSo k found old new
says_set old items new k s found stay within e is = record {
  this = ap (said_behind k) e ∙ set-same items k s within ∙ is;
  others = λ n ne. ap (said_behind n) e ∙ set-other items n k s ne ∙ stay n;
}

pub says_put : (items new : List Said) (k : ℕ) (s : Said) (found : Option (List (Option Warning)))
    → k < length items → new ≡ slice_set items k s → opened s ≡ told_by found → SaysSo k found items new
says_put items new k s found within e is = says_set items items new k s found (λ n. refl) within e is

-- the same behind lines beside which the same stood
pub says_since : (old items new : List Said) (k : ℕ) (found : Option (List (Option Warning)))
    → StaySaid old items → SaysSo k found items new → SaysSo k found old new
says_since old items new k found stay h = record {
  this = h.this;
  others = λ n ne. h.others n ne ∙ stay n;
}
