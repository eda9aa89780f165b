-- What a line did, as the logic stores it.
use Rattle.std.specs.Prelude.{◌≡◌, ◌⊎◌, ℕ, refl}
use Rattle.std.specs.Coded.{Coded, code_by, coded⊎, coded_ℕ}
use Rattle.std.proofs.Common.{inl, inr}
use Rattle.em_named.specs.declared.did.Did.{Did}
use Rattle.em_named.specs.declared.did.Did.TheVariants.{Performed, TookBack}

abbrev pub did_parts : Did → ℕ ⊎ ℕ
did_parts (Performed k) = inl k
did_parts (TookBack k) = inr k

abbrev pub did_from : ℕ ⊎ ℕ → Did
did_from (inl k) = Performed k
did_from (inr k) = TookBack k

abbrev pub did_same : (d : Did) → did_from (did_parts d) ≡ d
did_same (Performed k) = refl
did_same (TookBack k) = refl

abbrev pub did_code : Coded Did
did_code = code_by (ℕ ⊎ ℕ) (coded⊎ coded_ℕ coded_ℕ) did_parts did_from did_same
