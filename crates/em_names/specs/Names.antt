-- The manual's names of the registers.
use Rattle.std.specs.Prelude.{◌≡◌, ℕ, Bool, false, List, [], ◌∷◌, ◌++◌, map, codes, decimal}
use Rattle.std.specs.Char.{is_ascii_digit, to_ascii_lowercase}
use Rattle.em_regs.specs.declared.reg.Reg.{Reg}
use Rattle.em_regs.specs.declared.reg.Reg.TheVariants as named
use Rattle.em_regs.specs.Table.{stem_of}

-- which register of an array it is: in brackets in a table, and without them in an address
abbrev pub index_text : Reg → List ℕ
index_text (named.Mta i) = codes "[" ++ decimal i ++ codes "]"
index_text (named.Ral i) = decimal i
index_text (named.Rah i) = decimal i
index_text (named.Vfta i) = codes "[" ++ decimal i ++ codes "]"
index_text _ = []

-- the whole name
abbrev pub name_of : Reg → List ℕ
name_of reg = stem_of reg ++ index_text reg

-- the same letters, each in either case
abbrev pub SameLetters : List ℕ → List ℕ → Type 0
SameLetters a b = map to_ascii_lowercase a ≡ map to_ascii_lowercase b

-- the word is the register's name, in either case
abbrev pub IsNamed : List ℕ → Reg → Type 0
IsNamed word reg = SameLetters word (name_of reg)

-- the word's first letter is a digit
abbrev pub begins_with_digit : List ℕ → Bool
begins_with_digit [] = false
begins_with_digit (c ∷ word) = is_ascii_digit c
