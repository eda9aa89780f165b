-- Warnings are put into a list one by one.
use Rattle.std.proofs.Common.{◌≡◌, ℕ, ◌+◌, List, [], ◌∷◌, Option, Some, None, refl, ap, sym, arith, add-zero}
use Rattle.em_warnings.specs.Warnings.{there}
use Rattle.em_warnings.specs.declared.warning.Warning.{Warning}
use Rattle.em_c.specs.Warning.{laid}
use Rattle.em_c.specs.declared.warning.EmWarning.{EmWarning}

-- the first is put, and then the others behind it
pub laid_next : (w : Option Warning) (found : List (Option Warning)) (at : ℕ) (room : List EmWarning)
    → laid (w ∷ found) at room ≡ laid found (at + there (w ∷ [])) (laid (w ∷ []) at room)
laid_next None found at room = ap (λ n. laid found n room) (sym (add-zero at))
laid_next (Some w) found at room = refl

pub there_next : (w : Option Warning) (found : List (Option Warning))
    → there (w ∷ found) ≡ there (w ∷ []) + there found
there_next None found = omega arith
there_next (Some w) found = omega arith
