-- Places of a side that is known to be another one.
use Rattle.std.proofs.Common.{◌≡◌, ℕ, ap, ◌∙◌}
use Rattle.em_driver.specs.declared.layout.Side.{Side}

pub at_side : (f : Side → ℕ → ℕ) (i : ℕ) {a : ℕ} {side other : Side} → a ≡ f side i → side ≡ other → a ≡ f other i
at_side f i is same = is ∙ ap (λ side. f side i) same
