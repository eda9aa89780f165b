-- What has room in the FIFO.
use Rattle.std.proofs.Common.{◌≡◌, ℕ, ◌+◌, Bool, true, false, refl, sym, arith, true≢false}
use Rattle.std.specs.Prelude.{nat_lt}
use Rattle.std.proofs.lemmas.Bool.{lt-ltb, ltb-true}

agree : (a b : Bool) → (a ≡ true → b ≡ true) → (b ≡ true → a ≡ true) → a ≡ b
agree true true f g = refl
agree true false f g = absurd (true≢false (sym (f refl)))
agree false true f g = absurd (true≢false (sym (g refl)))
agree false false f g = refl

-- of so many octets that are taken, more than is free is more than there is
pub free_is_room : (taken free n : ℕ) → taken + free ≡ 49_152 → nat_lt 49_152 (taken + n) ≡ nat_lt free n
free_is_room taken free n whole =
    agree (nat_lt 49_152 (taken + n)) (nat_lt free n)
    (λ more. lt-ltb free n (omega (arith, ltb-true 49_152 (taken + n) more, whole)))
    (λ more. lt-ltb 49_152 (taken + n) (omega (arith, ltb-true free n more, whole)))
