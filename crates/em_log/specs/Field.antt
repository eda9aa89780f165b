-- The fields of a line: words, and texts behind names.
use Rattle.std.specs.Prelude.{ℕ, ◌+◌, ◌-◌, Bool, true, false, ◌==◌, ◌&&◌, nat_le, nat_lt, if◌then◌else◌, List, []}
use Rattle.std.specs.Prelude.{◌∷◌, length, take, drop, slice_index, Option, Some, None}
use Rattle.std.specs.Str.{bytes_eq}
use Rattle.em_text.specs.Words.{read_first}
use Rattle.em_log.specs.Number.{hex_in}

abbrev pub begins_with : List ℕ → List ℕ → Bool
begins_with text front = nat_le (length front) (length text) && bytes_eq (take (length front) text) front

abbrev pub ends_with : List ℕ → List ℕ → Bool
ends_with text end =
    nat_le (length end) (length text) && bytes_eq (drop (length text - length end) text) end

-- the first of these words, and those behind it
abbrev pub next_word : List (List ℕ) → Option (List ℕ × List (List ℕ))
next_word words = read_first (λ word. Some word) words

-- the text behind a name and `=` in a word
abbrev pub assigned : List ℕ → List ℕ → Option (List ℕ)
assigned name word =
    if begins_with word name && (nat_lt (length name) (length word) && slice_index word (length name) == 61)
    then Some (drop (length name + 1) word)
    else None

-- the text of a field, `NAME TEXT` or `NAME=TEXT`, and the words behind it
abbrev pub next_field : List ℕ → List (List ℕ) → Option (List ℕ × List (List ℕ))
next_field name [] = None
next_field name (word ∷ words) =
    if bytes_eq word name then next_word words else read_first (assigned name) (word ∷ words)

-- the number that the first of these words writes behind `0x`, and the words behind it
abbrev pub next_hex : List (List ℕ) → Option (ℕ × List (List ℕ))
next_hex words = read_first hex_in words

-- two words or more
abbrev pub has_two : List (List ℕ) → Bool
has_two (first ∷ second ∷ words) = true
has_two _ = false
