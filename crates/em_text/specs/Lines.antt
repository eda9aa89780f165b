-- The lines of a script.
use Rattle.std.specs.Prelude.{ℕ, Bool, ◌==◌, nat_lt, if◌then◌else◌, List, [], ◌∷◌, length}
use Rattle.std.specs.List.{slice_split}

-- what ends a line
abbrev pub is_newline : ℕ → Bool
is_newline octet = octet == 10

-- the parts, less the last where that is empty
abbrev pub without_empty_last : List (List ℕ) → List (List ℕ)
without_empty_last [] = []
without_empty_last (part ∷ []) = if nat_lt 0 (length part) then part ∷ [] else []
without_empty_last (part ∷ next ∷ parts) = part ∷ without_empty_last (next ∷ parts)

-- the parts between newlines; what follows the last newline is a line unless it is empty
unfoldable pub lines_of : List ℕ → List (List ℕ)
lines_of script = without_empty_last (slice_split is_newline script)
