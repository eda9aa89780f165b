-- What a tape notes of the line that it performs.
use Rattle.std.proofs.Common.{◌≡◌, ◌∙◌, ℕ, ◌+◌, ◌≤◌, zero, suc, Bool, true, false, cond, List, [], ◌∷◌, ◌++◌, length, take}
use Rattle.std.proofs.Common.{inl, inr, refl, sym, ap, arith}
use Rattle.std.specs.Prelude.{slice_get}
use Rattle.std.proofs.lemmas.Bool.{cases_lt, false≢true}
use Rattle.std.proofs.lemmas.List.{length_push, length-take-le, take_all}
use Rattle.em_named.specs.declared.did.Did.{Did}
use Rattle.em_tape.specs.Moves.{has_at, noted}

none_there : (k : ℕ) (d : Did) (did : List Did) → length did ≤ k → has_at (slice_get did k) d ≡ false
none_there k d [] past = refl
none_there zero d (x ∷ did) past = absurd (omega arith)
none_there (suc k) d (x ∷ did) past = none_there k d did (omega arith)

-- once line k + 1 was performed, at least so much is known
noted_by : (k : ℕ) (d : Did) (did : List Did) (is : Bool) → has_at (slice_get did k) d ≡ is → k ≤ length did
    → k + 1 ≤ length (cond is did (take k did ++ d ∷ []))
noted_by k d did true is le = elim (cases_lt k (length did)) [
  | inl lt ↦ omega arith
  | inr past ↦ absurd (false≢true (sym (none_there k d did past) ∙ is))
]
noted_by k d did false is le =
    let first : length (take k did) ≡ k = length-take-le k did le in
    omega (arith, length_push (take k did) d, first)

pub noted_within : (k : ℕ) (d : Did) (did : List Did) → k ≤ length did → k + 1 ≤ length (noted k d did)
noted_within k d did le = noted_by k d did (has_at (slice_get did k) d) refl le

-- behind all lines that were performed so far
pub noted_last : (k : ℕ) (d : Did) (did : List Did) → length did ≡ k → noted k d did ≡ did ++ d ∷ []
noted_last k d did long =
    ap (λ b. cond b did (take k did ++ d ∷ [])) (none_there k d did (omega arith))
    ∙ ap (λ l. l ++ d ∷ []) (take_all k did (omega arith))
