use Rattle.std.proofs.Common.{◌++◌, ◌-◌, ap, sym, ◌∙◌}
use Rattle.std.specs.Prelude.{bit_and, fold}
use Rattle.std.specs.List.{flat_map}
use Rattle.std.proofs.lemmas.Result.{MatchResult-from_err}
use Rattle.em_text.proofs.WritingLemmas.{Writes-more, WritesPart-front}
use Rattle.em_names.specs.Bits.{row_of_field, row_text, rest_text, table_text}
use Rattle.em_names.proofs.BitLaws.{table_text-map}
use Rattle.em_names.proofs.show.write_bits.Goals as goal

pub returns-in_err-write_fields : goal.returns-in_err-write_fields
returns-in_err-write_fields g c =
    let fields = c.fields-fields.result.now in
    let value = c.args.value in
    let rest = fold (λ rest f. bit_and rest (0xFFFF_FFFF - f.mask)) value fields in
    let some = sym c.is_empty.ensures ∙ c.if-is_empty.false in
    record {
      writes = MatchResult-from_err _ _ _ c.from_residual.ensures.0 (λ _.
          WritesPart-front (rest_text rest) c.in_err-write_fields.ensures.writes
          (ap (λ rows. table_text rows value) (sym c.fields-fields.ensures) ∙ table_text-map fields value some));
    }

pub returns : goal.returns
returns g c =
    let fields = c.fields-fields.result.now in
    let value = c.args.value in
    let shown = flat_map (λ f. row_text value (row_of_field f)) fields in
    let some = sym c.is_empty.ensures ∙ c.if-is_empty.false in
    record {
      writes = Writes-more _ _ _ _ shown (rest_text c.unnamed.result) _ c.in_ok-write_fields.ensures.writes
          c.write_rest.ensures.writes
          (ap (λ rows. table_text rows value) (sym c.fields-fields.ensures) ∙ table_text-map fields value some
          ∙ ap (λ rest. shown ++ rest_text rest) (sym c.unnamed.ensures));
    }
