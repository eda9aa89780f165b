-- The text of a table, from the rows that the code has.
use Rattle.std.proofs.Common.{◌≡◌, ℕ, ◌-◌, List, [], ◌∷◌, ◌++◌, length, map, refl, ap, ◌∙◌}
use Rattle.std.proofs.Common.{false, ◌==◌, arith}
use Rattle.std.proofs.lemmas.Bool.Decides.{nat_tests}
use Rattle.std.specs.Prelude.{fold, bit_and, codes}
use Rattle.std.specs.List.{flat_map}
use Rattle.em_text.specs.Writer.{value_digits}
use Rattle.em_names.specs.declared.field.Field.{Field}
use Rattle.em_names.specs.Bits.{row_of_field, row_text, rest_text, unnamed, table_text}

pub rest_text-some : (rest : ℕ) → (rest ≡ 0 → ⊥) → rest_text rest ≡ codes " " ++ value_digits rest
rest_text-some rest some = let test : (rest == 0) ≡ false = grind (arith, nat_tests, some) in rw test refl

-- the texts of rows
rows_text : (value : ℕ) (fields : List Field)
    → flat_map (row_text value) (map row_of_field fields) ≡ flat_map (λ f. row_text value (row_of_field f)) fields
rows_text value [] = refl
rows_text value (f ∷ fields) = ap (λ text. row_text value (row_of_field f) ++ text) (rows_text value fields)

-- the bits that no row has
no_row : (value : ℕ) (fields : List Field)
    → unnamed (map row_of_field fields) value ≡ fold (λ rest f. bit_and rest (0xFFFF_FFFF - f.mask)) value fields
no_row value [] = refl
no_row value (f ∷ fields) = no_row (bit_and value (0xFFFF_FFFF - f.mask)) fields

pub table_text-map : (fields : List Field) (value : ℕ) → (length fields == 0) ≡ false
    → table_text (map row_of_field fields) value
    ≡ flat_map (λ f. row_text value (row_of_field f)) fields
    ++ rest_text (fold (λ rest f. bit_and rest (0xFFFF_FFFF - f.mask)) value fields)
table_text-map [] value some = cc
table_text-map (f ∷ fields) value some =
    ap (λ text. text ++ rest_text (unnamed (map row_of_field (f ∷ fields)) value)) (rows_text value (f ∷ fields))
    ∙ ap (λ rest. flat_map (λ f. row_text value (row_of_field f)) (f ∷ fields) ++ rest_text rest)
    (no_row value (f ∷ fields))
