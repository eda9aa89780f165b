-- The part of a line that says something: behind a byte order mark, and up to a comment.
use Rattle.std.specs.Prelude.{ℕ, Bool, ◌-◌, ◌==◌, ◌&&◌, ◌||◌, min, if◌then◌else◌, List, ◌∷◌, length, take, drop, reverse}
use Rattle.std.specs.Prelude.{slice_index, find, Option, Some, None}
use Rattle.std.specs.List.{prefix_len, position_or_len, range_with_len}
use Rattle.em_text.specs.Words.{is_blank}

-- a line without the three octets of a byte order mark before it
abbrev pub without_mark : List ℕ → List ℕ
without_mark (a ∷ b ∷ c ∷ rest) = if (a == 0xEF && b == 0xBB) && c == 0xBF then rest else a ∷ b ∷ c ∷ rest
without_mark line = line

-- a comment begins at an octet: it is a hash, and a blank or nothing stands before it
abbrev pub is_comment_at : List ℕ → ℕ → Bool
is_comment_at line at = slice_index line at == 35 && (at == 0 || is_blank (slice_index line (at - 1)))

abbrev pub cut_at : List ℕ → Option ℕ → List ℕ
cut_at line None = line
cut_at line (Some at) = take (min at (length line)) line

-- a line up to its first comment
abbrev pub before_comment : List ℕ → List ℕ
before_comment line = cut_at line (find (is_comment_at line) (range_with_len 0 (length line)))

-- what a line says
abbrev pub told : List ℕ → List ℕ
told line = before_comment (without_mark line)

-- a text from its first octet on that is no blank
abbrev pub from_word : List ℕ → List ℕ
from_word text = drop (prefix_len is_blank text) text

-- the first word of a text
abbrev pub first_word : List ℕ → List ℕ
first_word text = take (position_or_len is_blank (from_word text)) (from_word text)

-- what stands behind it
abbrev pub behind_first : List ℕ → List ℕ
behind_first text = drop (position_or_len is_blank (from_word text)) (from_word text)

-- a text without the blanks around it
abbrev pub without_blanks : List ℕ → List ℕ
without_blanks text =
    let from = from_word text in
    take (length from - prefix_len is_blank (reverse from)) from
