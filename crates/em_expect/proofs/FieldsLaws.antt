-- The text of a register's fields, from the rows that the code has.
use Rattle.std.proofs.Common.{◌≡◌, ℕ, List, [], ◌∷◌, ◌++◌, map, refl, ap, sym, ◌∙◌}
use Rattle.std.specs.Prelude.{Option, Some}
use Rattle.std.specs.List.{flat_map}
use Rattle.em_regs.specs.declared.reg.Reg.{Reg}
use Rattle.em_names.specs.declared.field.Field.{Field}
use Rattle.em_names.specs.Bits.{row_of_field, table_of}
use Rattle.em_expect.specs.Difference.{field_text, fields_text}

-- the texts of rows
rows_text : (wanted value : ℕ) (fields : List Field)
    → flat_map (field_text wanted value) (map row_of_field fields)
    ≡ flat_map (λ f. field_text wanted value (row_of_field f)) fields
rows_text wanted value [] = refl
rows_text wanted value (f ∷ fields) =
    ap (λ text. field_text wanted value (row_of_field f) ++ text) (rows_text wanted value fields)

-- where a register is read, and both values are there
pub fields_text-some : (reg : Option Reg) (wanted value : Option ℕ) (r : Reg) (w v : ℕ) (fields : List Field)
    → Some r ≡ reg → Some w ≡ wanted → Some v ≡ value → map row_of_field fields ≡ table_of r
    → fields_text reg wanted value ≡ flat_map (λ f. field_text w v (row_of_field f)) fields
fields_text-some reg wanted value r w v fields is_reg is_wanted is_value rows =
    ap (λ reg. fields_text reg wanted value) (sym is_reg)
    ∙ ap (λ wanted. fields_text (Some r) wanted value) (sym is_wanted)
    ∙ ap (λ value. fields_text (Some r) (Some w) value) (sym is_value)
    ∙ ap (λ rows. flat_map (field_text w v) rows) (sym rows)
    ∙ rows_text w v fields
