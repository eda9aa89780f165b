-- The parts of a line: what it says, and behind that, in this order, the answer that it expects, where it comes from,
-- and a comment. A word that begins with `=`, `@` or `#` begins each of these.
use Rattle.std.specs.Prelude.{◌≡◌, ℕ, Bool, false, if◌then◌else◌, ◌+◌, ◌-◌, ◌==◌, ◌||◌, ◌&&◌, List, [], ◌∷◌, length}
use Rattle.std.specs.Prelude.{take, drop, slice_index, find, Option, Some, None, option_map}
use Rattle.std.specs.List.{prefix_len, suffix_len, range_with_len}
use Rattle.em_text.specs.Words.{is_blank, words_of}
use Rattle.em_line.specs.Grammar.{is_comment}
use Rattle.em_line.specs.declared.parts.Parts.{Parts}

-- ---- places of a text

-- at the beginning, or behind a blank
abbrev pub begins_at : List ℕ → ℕ → Bool
begins_at text at = at == 0 || is_blank (slice_index text (at - 1))

-- a word that begins with this octet stands at this place
abbrev pub stands_at : ℕ → List ℕ → ℕ → Bool
stands_at octet text at = slice_index text at == octet && begins_at text at

-- the first such place of a text, if there is one
abbrev pub first_place : (ℕ → Bool) → List ℕ → Option ℕ
first_place is_so text = find is_so (range_with_len 0 (length text))

abbrev pub place_of : ℕ → List ℕ → Option ℕ
place_of octet text = first_place (stands_at octet text) text

-- ---- parts of a text

abbrev pub without_end : List ℕ → List ℕ
without_end text = take (length text - suffix_len is_blank text) text

abbrev pub without_blanks : List ℕ → List ℕ
without_blanks text = without_end (drop (prefix_len is_blank text) text)

abbrev pub before : List ℕ → Option ℕ → List ℕ
before text None = text
before text (Some at) = take at text

-- what stands before the first word that begins with this octet
abbrev pub front_of : ℕ → List ℕ → List ℕ
front_of octet text = before text (place_of octet text)

abbrev pub behind : List ℕ → Option ℕ → Option (List ℕ)
behind text None = None
behind text (Some at) = Some (without_blanks (drop (at + 1) text))

-- what stands behind that octet, if there is one
abbrev pub behind_of : ℕ → List ℕ → Option (List ℕ)
behind_of octet text = behind text (place_of octet text)

-- ---- a line

-- what stands behind the hash of its comment
abbrev pub comment_in : List ℕ → Option (List ℕ)
comment_in line = behind_of 35 line

-- where it comes from, as a caller or a log says
abbrev pub source_in : List ℕ → Option (List ℕ)
source_in line = behind_of 64 (front_of 35 line)

-- the answer that it expects
abbrev pub expected_in : List ℕ → Option (List ℕ)
expected_in line = behind_of 61 (front_of 64 (front_of 35 line))

-- one of these parts begins with this octet
abbrev pub is_mark : ℕ → Bool
is_mark octet = octet == 61 || octet == 64 || octet == 35

-- one of these parts begins at this place
abbrev pub marks_at : List ℕ → ℕ → Bool
marks_at line at = is_mark (slice_index line at) && begins_at line at

-- a line whose first word begins a comment
abbrev pub is_comment_line : List (List ℕ) → Bool
is_comment_line [] = false
is_comment_line (word ∷ words) = is_comment word

-- where the first of them begins; a line that is a comment has none
abbrev pub mark_in : List ℕ → Option ℕ
mark_in line = if is_comment_line (words_of line) then None else first_place (marks_at line) line

abbrev pub said_before : List ℕ → Option ℕ → List ℕ
said_before line None = line
said_before line (Some at) = without_end (take at line)

-- what a line says, as it stands
abbrev pub said_in : List ℕ → List ℕ
said_in line = said_before line (mark_in line)

-- all of them
pub record AreParts (line : List ℕ) (parts : Parts) : Type 0 where
  pub said : parts.said.now ≡ said_in line
  pub expected : option_map (λ answer. answer.now) parts.expected ≡ expected_in line
  pub source : option_map (λ place. place.now) parts.source ≡ source_in line
  pub comment : option_map (λ text. text.now) parts.comment ≡ comment_in line
