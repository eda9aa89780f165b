-- A line that is taken from a reader.
use Rattle.std.specs.Prelude.{◌≡◌, ◌≢◌, ◌<◌, ◌≤◌, ◌+◌, ◌-◌, ℕ, List, [], ◌∷◌, ◌++◌, All, length, take, Option, IfSome}
use Rattle.std.specs.Io.KnownBytes.{Consumes, IsAtEnd, Keeps}
use Rattle.std.specs.Io.BufRead.{first_line, DropsThrough}
use Rattle.em_console.specs.declared.reading.AtHand.{AtHand}
use Rattle.em_console.specs.declared.reading.AtHand.TheVariants.{Part, Last, Nothing}

-- the most octets of a line
abbrev pub most_line : ℕ
most_line = 65536

-- how many octets are kept of a longer one: without the last of them, a carriage return, it is still too long
abbrev pub most_kept : ℕ
most_kept = most_line + 2

-- of this whole line: all of it, or where it is too long, a line that is too long
abbrev pub IsLineOf : List ℕ → List ℕ → Type 0
IsLineOf whole line = (length whole ≤ most_line → line ≡ whole) × (most_line < length whole → most_line < length line)

-- a reader that was not at its end has lost its first line with its newline; `first_line` has neither that newline
-- nor a carriage return before it
pub record TakesLine (given rest : Option (List ℕ)) (line : List ℕ) : Type 0 where
  pub first : IfSome given (λ octets. (0 < length octets) × IsLineOf (first_line octets) line)
  pub behind : DropsThrough given rest 10

-- a part was added to a front of a line, as far as there is room; it has no newline
pub record TakesPart (front line part : List ℕ) : Type 0 where
  pub added : line ≡ front ++ take (most_kept - length front) part
  pub plain : All (λ octet. octet ≢ 10) part

-- what a reader had at hand was added to a front of a line
abbrev pub TakesAtHand : Option (List ℕ) → Option (List ℕ) → List ℕ → List ℕ → AtHand → Type 0
TakesAtHand given rest front line Part =
    (part : List ℕ) × TakesPart front line part × (0 < length part) × Consumes given rest part
TakesAtHand given rest front line Last =
    (part : List ℕ) × TakesPart front line part × Consumes given rest (part ++ 10 ∷ [])
TakesAtHand given rest front line Nothing = (line ≡ front) × IsAtEnd given × Keeps given rest
