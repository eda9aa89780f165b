-- What is kept of lines that sent frames.
use Rattle.std.proofs.Common.{◌≡◌, ◌∙◌, ◌<◌, ℕ, zero, suc, List, [], ◌∷◌, ◌++◌, length, get_or, refl, ap}
use Rattle.std.proofs.Common.{arith}
use Rattle.std.specs.Prelude.{◌≢◌, Bool, true, false, nat_lt, if◌then◌else◌, slice_set, Option, Some, None}
use Rattle.em_debugger.specs.Sending.{KeepsFirst, PutsFirst, StaysSent, first_of, first_sent}

-- nothing that is kept of one line more changes what is kept of others
none-pushed : (xs : List (Option ℕ)) (k : ℕ) → get_or (xs ++ None ∷ []) k None ≡ get_or xs k None
none-pushed [] zero = refl
none-pushed [] (suc k) = refl
none-pushed (x ∷ xs) zero = refl
none-pushed (x ∷ xs) (suc k) = none-pushed xs k

pub first-pushed : (n : ℕ) (xs : List (Option ℕ)) → first_of n (xs ++ None ∷ []) ≡ first_of n xs
first-pushed zero xs = refl
first-pushed (suc k) xs = none-pushed xs k

set-same : (xs : List (Option ℕ)) (i : ℕ) (v : Option ℕ) → i < length xs → get_or (slice_set xs i v) i None ≡ v
set-same [] i v lt = absurd (omega arith)
set-same (x ∷ xs) zero v lt = refl
set-same (x ∷ xs) (suc i) v lt = set-same xs i v (omega arith)

set-other : (xs : List (Option ℕ)) (k i : ℕ) (v : Option ℕ) → k ≢ i
    → get_or (slice_set xs i v) k None ≡ get_or xs k None
set-other [] k i v ne = refl
set-other (x ∷ xs) zero zero v ne = absurd (ne refl)
set-other (x ∷ xs) zero (suc i) v ne = refl
set-other (x ∷ xs) (suc k) zero v ne = refl
set-other (x ∷ xs) (suc k) (suc i) v ne = set-other xs k i v (λ e. ne (ap suc e))

first-others : (xs : List (Option ℕ)) (k i : ℕ) (v : Option ℕ) → k ≢ suc i
    → first_of k (slice_set xs i v) ≡ first_of k xs
first-others xs zero i v ne = refl
first-others xs (suc k) i v ne = set-other xs k i v (λ same. ne (ap suc same))

-- it is kept of one line
pub puts_first : (xs : List (Option ℕ)) (number i first : ℕ) → number ≡ suc i → i < length xs
    → PutsFirst number first xs (slice_set xs i (Some first))
puts_first xs number i first e lt = rw e record {
  this = set-same xs i (Some first) lt;
  others = λ n ne. first-others xs n i (Some first) ne;
}

keeps_by : (is : Bool) (number before : ℕ) (old ready new : List (Option ℕ)) → StaysSent old ready
    → (is ≡ false → ready ≡ old) → KeepsFirst number (if is then Some before else None) ready new
    → KeepsFirst number (if is then Some before else None) old new
keeps_by true number before old ready new stay same keeps =
    record { this = keeps.this; others = λ n ne. keeps.others n ne ∙ stay n }
keeps_by false number before old ready new stay same keeps = keeps ∙ same refl

-- a place was made for what a line sent, if it sent any, and then it was kept
pub keeps_ready : (number before behind : ℕ) (old ready new : List (Option ℕ)) → StaysSent old ready
    → (nat_lt before behind ≡ false → ready ≡ old) → KeepsFirst number (first_sent before behind) ready new
    → KeepsFirst number (first_sent before behind) old new
keeps_ready number before behind old ready new stay same keeps =
    keeps_by (nat_lt before behind) number before old ready new stay same keeps
