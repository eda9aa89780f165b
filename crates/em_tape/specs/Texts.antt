-- The octets of texts.
use Rattle.std.specs.Prelude.{ℕ, List, map}
use Rattle.smallvec.specs.SmallVec.{SmallVec}

-- the octets of each
abbrev pub texts : List (SmallVec ℕ) → List (List ℕ)
texts all = map (λ text. text.items) all
