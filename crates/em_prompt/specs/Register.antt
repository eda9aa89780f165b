-- The register that a word means, by its name or by its offset.
use Rattle.std.specs.Prelude.{ℕ, Bool, List, [], ◌∷◌, Option, Some, None, find, map, option_and_then}
use Rattle.std.specs.List.{range_with_len}
use Rattle.std.specs.Option.{option_map}
use Rattle.std.specs.Char.{to_ascii_lowercase}
use Rattle.std.specs.Str.{bytes_eq}
use Rattle.em_regs.specs.declared.profile.Profile.{Profile}
use Rattle.em_regs.specs.declared.profile.Profile.TheVariants.{Table, Adapter}
use Rattle.em_regs.specs.declared.reg.Reg.{Reg}
use Rattle.em_regs.specs.Table.{row_of, with_index, registers, registers_of_table, reg_of}
use Rattle.em_names.specs.Names.{name_of}
use Rattle.em_prompt.specs.Word.{hex_number_in}

-- the same letters, each in either case
abbrev pub same_letters : List ℕ → List ℕ → Bool
same_letters a b = bytes_eq (map to_ascii_lowercase a) (map to_ascii_lowercase b)

-- of these two, the first that is there
abbrev pub or_else : {T : Type 0} → Option T → Option T → Option T
or_else None second = second
or_else (Some value) second = Some value

-- the index of the register of a row that a word names
abbrev pub index_named : List ℕ → Reg → Option ℕ
index_named word row = find (λ i. same_letters word (name_of (with_index row i))) (range_with_len 0 (row_of row).words)

abbrev pub named_among : List ℕ → List Reg → Option Reg
named_among word [] = None
named_among word (row ∷ rows) = or_else (option_map (with_index row) (index_named word row)) (named_among word rows)

-- the rows that a profile has
abbrev pub rows_of : Profile → List Reg
rows_of Table = registers_of_table
rows_of Adapter = registers

-- the register of a profile that a word names, in either case
unfoldable pub named : Profile → List ℕ → Option Reg
named profile word = named_among word (rows_of profile)

-- the register of a profile that a word names, or that lies at the offset that it writes
abbrev pub known : Profile → List ℕ → Option Reg
known profile word = or_else (named profile word) (option_and_then (reg_of profile) (hex_number_in word))
