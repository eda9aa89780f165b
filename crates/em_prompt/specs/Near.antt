-- The command that may be meant by a word that names none.
use Rattle.std.specs.Prelude.{ℕ, nat_lt, Bool, false, ◌==◌, ◌&&◌, ◌||◌, if◌then◌else◌}
use Rattle.std.specs.Prelude.{List, ◌∷◌, codes, length, take, drop, zip, find, Option, Some, None}
use Rattle.std.specs.List.{prefix_len}
use Rattle.std.specs.Str.{bytes_eq}
use Rattle.em_prompt.specs.declared.command.Command.{Command}
use Rattle.em_prompt.specs.declared.command.Command.TheVariants.{Help}
use Rattle.em_prompt.specs.Command.{commands, name_of}

-- how many letters two words have in common at their fronts
abbrev pub common : List ℕ → List ℕ → ℕ
common a b = prefix_len (λ pair. pair.0 == pair.1) (zip a b)

-- the first two letters are those of the other word, turned, and the rest is the same
abbrev pub is_swapped : List ℕ → List ℕ → Bool
is_swapped (a ∷ b ∷ rest) (c ∷ d ∷ others) = (a == d && b == c) && bytes_eq rest others
is_swapped _ _ = false

-- of the one to the other the first letter is left out, put in or changed, or the first two are turned
abbrev pub is_edited : List ℕ → List ℕ → Bool
is_edited a b =
    ((bytes_eq (drop 1 a) b || bytes_eq a (drop 1 b)) || bytes_eq (drop 1 a) (drop 1 b)) || is_swapped a b

-- behind what they have in common there is one such letter
abbrev pub is_near : List ℕ → List ℕ → Bool
is_near word name = is_edited (drop (common word name) word) (drop (common word name) name)

-- a name begins with a word
abbrev pub begins : List ℕ → List ℕ → Bool
begins word name = bytes_eq (take (length word) name) word

-- the first command that is near to a word of three letters or more
abbrev pub first_near : List ℕ → Option Command
first_near word = find (λ command. is_near word (name_of command)) commands

abbrev pub mistyped : List ℕ → Option Command
mistyped word = if nat_lt 2 (length word) then first_near word else None

-- the first command whose name begins with a word
abbrev pub begun : List ℕ → Option Command
begun word = find (λ command. begins word (name_of command)) commands

abbrev pub or_begun : List ℕ → Option Command → Option Command
or_begun word (Some command) = Some command
or_begun word None = begun word

-- the command that may be meant
abbrev pub near_of : List ℕ → Option Command
near_of word = if bytes_eq word (codes "?") || bytes_eq word (codes "h") then Some Help else or_begun word (mistyped word)
