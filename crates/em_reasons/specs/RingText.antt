-- What is said of the head and the tail of either ring.
use Rattle.std.specs.Prelude.{ℕ, List, ◌++◌, codes, decimal}

-- the head or the tail, which has this name, is at the count or past it
abbrev pub past_text : List ℕ → ℕ → ℕ → List ℕ
past_text name index count = name ++ (codes " " ++ (decimal index ++ (codes " is past the ring of " ++ decimal count)))

-- both are the same
abbrev pub empty_text : List ℕ → ℕ → List ℕ
empty_text names index = codes "the ring is empty (" ++ (names ++ (codes " = " ++ (decimal index ++ codes ")")))
