-- When a driver printed a line: a time in front of what the line is of, as the kernel prints it, `[   12.345678]`, or alone.
use Rattle.std.specs.Prelude.{ℕ, ◌+◌, ◌-◌, ◌==◌, ◌&&◌, ◌||◌, nat_le, nat_lt, Bool, true, if◌then◌else◌}
use Rattle.std.specs.Prelude.{List, [], ◌∷◌, length, take, drop, slice_index, Option, Some, None, is_some}
use Rattle.em_text.specs.Words.{words_of}
use Rattle.em_log.specs.Plain.{said_by}

abbrev pub is_digit : ℕ → Bool
is_digit octet = nat_le 48 octet && nat_le octet 57

abbrev pub is_digits : List ℕ → Bool
is_digits [] = true
is_digits (octet ∷ octets) = is_digit octet && is_digits octets

-- one or more digits, a point, and six digits
abbrev pub is_stamp : List ℕ → Bool
is_stamp text =
    let point = length text - 7 in
    nat_lt 7 (length text) && (slice_index text point == 46
    && (is_digits (take point text) && is_digits (drop (point + 1) text)))

-- without `[` in front
abbrev pub without_bracket : List ℕ → List ℕ
without_bracket [] = []
without_bracket (octet ∷ octets) = if octet == 91 then octets else octet ∷ octets

-- without `]` or `:` behind
abbrev pub without_end : List ℕ → List ℕ
without_end word =
    let last = length word - 1 in
    if nat_lt 0 (length word) && (slice_index word last == 93 || slice_index word last == 58) then take last word
    else word

abbrev pub unmarked : List ℕ → List ℕ
unmarked word = without_end (without_bracket word)

abbrev pub stamp_or : List ℕ → Bool → Bool → Option (List ℕ) → Option (List ℕ)
stamp_or stamp is said further = if is then Some stamp else if said then None else further

-- the first of these words that is a time, up to the one that says what the line is of
abbrev pub stamp_in : List (List ℕ) → Option (List ℕ)
stamp_in [] = None
stamp_in (word ∷ words) =
    stamp_or (unmarked word) (is_stamp (unmarked word)) (is_some (said_by word words)) (stamp_in words)

unfoldable pub printed_stamp : List ℕ → Option (List ℕ)
printed_stamp line = stamp_in (words_of line)
