-- What the lines were answered, as it is kept.
use Rattle.std.specs.Prelude.{◌≡◌, ◌≢◌, ℕ, ◌+◌, List, [], ◌∷◌, insert, length, nat_lt, if◌then◌else◌, remove, take, get_or, unwrap_or}
use Rattle.em_text.specs.Lines.{lines_of}
use Rattle.em_tape.specs.Tape.{line_at}

-- what is kept of an answer: its first line, and not more than 64 octets of that
abbrev pub kept_of : List ℕ → List ℕ
kept_of text = take 64 (get_or (lines_of text) 0 [])

-- what is kept of the answer to the line of a number, from 1; where nothing is, no octet
abbrev pub told_of : ℕ → List (List ℕ) → List ℕ
told_of n answers = unwrap_or (line_at n answers) []

-- this text stands beside one line, and those beside the others stay
pub record Puts (number : ℕ) (text : List ℕ) (old new : List (List ℕ)) : Type 0 where
  pub this : told_of number new ≡ text
  pub others : (n : ℕ) → n ≢ number → told_of n new ≡ told_of n old

-- a text is kept beside one line, if it has an octet
abbrev pub KeepsText : ℕ → List ℕ → List (List ℕ) → List (List ℕ) → Type 0
KeepsText number [] old new = new ≡ old
KeepsText number (octet ∷ octets) old new = Puts number (octet ∷ octets) old new

-- the same of lines, the first of them with this number, and what is kept beside each
abbrev pub KeepsTexts : (List ℕ → List ℕ) → ℕ → List (List ℕ) → List (List ℕ) → List (List ℕ) → Type 0
KeepsTexts kept number [] old new = new ≡ old
KeepsTexts kept number (line ∷ lines) old new =
    (between : List (List ℕ)) × KeepsText number (kept line) old between
    × KeepsTexts kept (number + 1) lines between new

-- beside each line the same stands
abbrev pub Stay : List (List ℕ) → List (List ℕ) → Type 0
Stay old new = (line : ℕ) → told_of line new ≡ told_of line old

-- the answer to one line was kept, and those to the others stay
abbrev pub Notes : ℕ → List ℕ → List (List ℕ) → List (List ℕ) → Type 0
Notes number text old new = Puts number (kept_of text) old new

-- the texts beside the lines behind the first so many stand beside the next ones
abbrev pub moved : ℕ → List (List ℕ) → List (List ℕ)
moved lines held = if nat_lt lines (length held) then insert held lines [] else held

-- the text beside the line behind the first so many is gone, and the texts beside the next ones stand beside those before
abbrev pub closed : ℕ → List (List ℕ) → List (List ℕ)
closed lines held = if nat_lt lines (length held) then remove held lines else held
