-- Whether an answer is the one that was expected.
use Rattle.std.specs.Prelude.{ℕ, Bool, true, false, not, ◌+◌, ◌-◌, ◌==◌, ◌||◌, ◌&&◌, nat_lt, if◌then◌else◌, List, length, map}
use Rattle.std.specs.Prelude.{take, slice_index, zip, Option, Some, None}
use Rattle.std.specs.List.{before_first, list_all, range_with_len}
use Rattle.std.specs.Char.{eq_ignore_ascii_case, is_ascii_hexdigit}
use Rattle.em_step.specs.Event.{Event, reads}
use Rattle.em_text.specs.Lines.{is_newline}
use Rattle.em_line.specs.Digits.{bare}

-- the first line of an answer, without its newline
abbrev pub first_line : List ℕ → List ℕ
first_line answer = before_first is_newline answer

-- a dash that is expected stands for each digit
abbrev pub stands_for : ℕ → ℕ → Bool
stands_for wanted octet = eq_ignore_ascii_case wanted octet || (wanted == 45 && is_ascii_hexdigit octet)

abbrev pub each_agrees : List ℕ → List ℕ → Bool
each_agrees expected line = list_all (λ (wanted, octet). stands_for wanted octet) (zip expected line)

-- ---- as a text

-- a text that is expected is this line
abbrev pub agrees_as_text : List ℕ → List ℕ → Bool
agrees_as_text expected line =
    not (length expected == 0) && (length expected == length line && each_agrees expected line)

-- ---- as a number

-- the value of a register, as it is answered: 8 digits
abbrev pub is_value : List ℕ → Bool
is_value line = length line == 8 && list_all is_ascii_hexdigit line

-- digit `at` of eight, from the left, of a number in these digits: zeros before them, where they are fewer
abbrev pub padded_digit : List ℕ → ℕ → ℕ
padded_digit digits at =
    let missing = 8 - length digits in
    if nat_lt at missing then 48 else slice_index digits ((at - missing) + (length digits - 8))

abbrev pub padded : List ℕ → List ℕ
padded digits = map (padded_digit digits) (range_with_len 0 8)

-- the digits before the last eight are zeros
abbrev pub fits : List ℕ → Bool
fits digits = list_all (λ digit. digit == 48) (take (length digits - 8) digits)

abbrev pub eight_of : List ℕ → Option (List ℕ)
eight_of digits = if not (length digits == 0) && fits digits then Some (padded digits) else None

-- the eight digits of a number that is expected, in any number of digits, with `0x` before them or without
abbrev pub eight_digits : List ℕ → Option (List ℕ)
eight_digits expected = eight_of (bare expected)

abbrev pub eight_agree : Option (List ℕ) → List ℕ → Bool
eight_agree None line = false
eight_agree (Some digits) line = each_agrees digits line

abbrev pub agrees_as_number : List ℕ → List ℕ → Bool
agrees_as_number expected line = eight_agree (eight_digits expected) line

-- ---- an answer

abbrev pub agrees_by : Bool → List ℕ → List ℕ → Bool
agrees_by value expected line = if value then agrees_as_number expected line else agrees_as_text expected line

abbrev pub is_read : Option Event → Bool
is_read (Some (reads offset)) = true
is_read _ = false

-- what a read answers in eight digits is compared as a number; all else as a text
abbrev pub agrees_of : Option Event → List ℕ → List ℕ → Bool
agrees_of event expected answer =
    agrees_by (is_read event && is_value (first_line answer)) expected (first_line answer)
