-- A word without the `0x` before its digits.
use Rattle.std.specs.Prelude.{ℕ, ◌==◌, ◌&&◌, ◌||◌, if◌then◌else◌, List, ◌∷◌}

abbrev pub bare : List ℕ → List ℕ
bare (a ∷ b ∷ digits) = if a == 48 && (b == 120 || b == 88) then digits else a ∷ b ∷ digits
bare word = word
