-- The words of a line.
use Rattle.std.specs.Prelude.{ℕ, Bool, ◌==◌, ◌||◌, nat_lt, List, [], ◌∷◌, length, filter, Option, None, option_map}
use Rattle.std.specs.List.{slice_split}

-- a space, a tab or a carriage return
abbrev pub is_blank : ℕ → Bool
is_blank octet = (octet == 32 || octet == 9) || octet == 13

-- the parts between blanks, less the empty ones
unfoldable pub words_of : List ℕ → List (List ℕ)
words_of line = filter (λ word. nat_lt 0 (length word)) (slice_split is_blank line)

-- what is read in the first of these words, with the words behind it, if there is one and something is read in it
abbrev pub read_first : {A : Type 0} → (List ℕ → Option A) → List (List ℕ) → Option (A × List (List ℕ))
read_first read [] = None
read_first read (word ∷ words) = option_map (λ value. (value, words)) (read word)
