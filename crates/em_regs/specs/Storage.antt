-- How words are kept: each row of the table has as many words as it has registers, in the order of their places.
use Rattle.std.specs.Prelude.{Bool, ℕ, ◌+◌, zero, suc, if◌then◌else◌, List, [], ◌∷◌, ◌++◌}
use Rattle.std.specs.List.{zip}
use Rattle.std.specs.FinMap as map
use Rattle.std.specs.Ordering.{nat_cmp}
use Rattle.em_regs.specs.declared.reg.Reg.{Reg}
use Rattle.em_regs.specs.declared.table.Row.{Row}
use Rattle.em_regs.specs.Table.{row_of, registers, is_stored}

-- registers as a map from offset to number
abbrev pub Registers : Type 0
Registers = map.FinMap nat_cmp ℕ

-- n offsets, some octets apart, from o on
abbrev pub offsets_from : ℕ → ℕ → ℕ → List ℕ
offsets_from o spacing zero = []
offsets_from o spacing (suc n) = o ∷ offsets_from (o + spacing) spacing n

-- the offsets of a row's words
abbrev pub row_offsets : Row → List ℕ
row_offsets row = offsets_from row.offset row.spacing row.words

-- the offsets of the registers that pass a test, of each row all its words
abbrev pub offsets_of : (Reg → Bool) → List Reg → List ℕ
offsets_of test [] = []
offsets_of test (r ∷ rs) = if test r then row_offsets (row_of r) ++ offsets_of test rs else offsets_of test rs

-- the offsets of the words of a register file, each at its place
unfoldable pub offsets : List ℕ
offsets = offsets_of is_stored registers

-- words at offsets as a map
unfoldable pub words_at : List ℕ → List ℕ → Registers
words_at os ws = map.from_entries (zip os ws)
