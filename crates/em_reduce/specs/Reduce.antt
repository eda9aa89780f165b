-- Some of a list's items.
use Rattle.std.specs.Prelude.{ℕ, List, [], ◌∷◌}

-- a list has some of another one's items, in their order
pub data IsPartOf {X : Type 0} : List X → List X → Type 0 where
  none : IsPartOf [] []
  kept : (x : X) (part whole : List X) → IsPartOf part whole → IsPartOf (x ∷ part) (x ∷ whole)
  left_out : (x : X) (part whole : List X) → IsPartOf part whole → IsPartOf part (x ∷ whole)

-- some items were left out, and the others have what is asked for
pub record Reduces (has : List ℕ → Type 0) (items few : List ℕ) : Type 0 where
  pub part : IsPartOf few items
  pub still : has few
