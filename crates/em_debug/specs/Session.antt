-- The line that is answered, where an empty one repeats the one before it: at a terminal.
use Rattle.std.specs.Prelude.{ℕ, List, [], ◌∷◌, Option, Some, None}
use Rattle.em_text.specs.Words.{words_of}

-- a line without a word means the last that was answered
abbrev pub repeated : List ℕ → List ℕ → List (List ℕ) → List ℕ
repeated last line [] = last
repeated last line (word ∷ words) = line

-- by the last line, where it is kept: at a terminal
abbrev pub meant : Option (List ℕ) → List ℕ → List ℕ
meant None line = line
meant (Some last) line = repeated last line (words_of line)

-- the line that was answered is then the last
abbrev pub last_after : Option (List ℕ) → List ℕ → Option (List ℕ)
last_after None line = None
last_after (Some last) line = Some (meant (Some last) line)
