use Rattle.std.proofs.lemmas.Result.{MatchResult-from_err}
use Rattle.em_text.proofs.WritingLemmas.{WritesPart-among}
use Rattle.em_names.specs.Bits.{row_of_field}
use Rattle.em_expect.specs.Difference.{field_text}
use Rattle.em_expect.proofs.difference.write_fields.Goals as goal

pub returns-in_err-write_field : goal.returns-in_err-write_field
returns-in_err-write_field g c = record {
  writes = MatchResult-from_err _ _ _ c.from_residual.ensures.0 (λ _.
      WritesPart-among (λ field. field_text c.args.wanted c.args.value (row_of_field field)) c.args.fields.now
      c.loop-field.field-index _
      c.loop-field-test.true c.loop-field.invariant c.in_err-write_field.ensures.writes);
}
