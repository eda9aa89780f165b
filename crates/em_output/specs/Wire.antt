-- The text of the frames that were sent.
use Rattle.std.specs.Prelude.{ℕ, List, ◌++◌, length, codes}
use Rattle.std.specs.List.{flat_map}
use Rattle.em_text.specs.Writer.{hex_line_text, decimal_line_text}

-- how many they are
abbrev pub count_text : ℕ → List ℕ
count_text n = codes "wire " ++ decimal_line_text n

-- the octets of each on a line of its own, those of the first one first
abbrev pub frames_text : List (List ℕ) → List ℕ
frames_text frames = flat_map hex_line_text frames

abbrev pub wire_text : List (List ℕ) → List ℕ
wire_text frames = count_text (length frames) ++ frames_text frames
