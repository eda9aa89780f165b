use Rattle.std.proofs.Common.{sym, ap, ◌∙◌, subst}
use Rattle.std.proofs.lemmas.Option.{slice_get-map}
use Rattle.std.specs.List.{slice_get}
use Rattle.std.specs.Option.{option_map}
use Rattle.em_names.specs.Bits.{row_of_field}
use Rattle.em_c.specs.Fields.{field_told}
use Rattle.em_c.specs.Line.{IsTold}
use Rattle.em_c.proofs.fields.field_of.Goals as goal

-- the register's table has the rows of its fields
pub returns-in-Some : goal.returns-in-Some
returns-in-Some c =
    subst (λ row. IsTold c.field_told.result (field_told row))
    (ap (option_map row_of_field) c.in-Some.ensures
    ∙ sym (slice_get-map row_of_field c.fields.result.now c.args.k)
    ∙ ap (λ rows. slice_get rows c.args.k) c.fields.ensures)
    c.field_told.ensures
