use Rattle.std.proofs.Common.{ℕ, List, sym, subst}
use Rattle.em_text.specs.Writer.{Writes}
use Rattle.em_expect.specs.Difference.{value_in, wanted_value}
use Rattle.em_expect.proofs.FieldsLaws.{fields_text-some}
use Rattle.em_expect.proofs.difference.write_told.Goals as goal

pub returns : goal.returns
returns g c =
    let there = c.args.there.now in
    let contents = g.W.Write.contents in
    let IsText : List ℕ → Type 0 =
    λ text. Writes (contents c.args.writer.now) (contents c.write_fields.new.writer) c.write_fields.result text in
    let same = fields_text-some c.args.read (wanted_value c.args.expected.now there)
    (value_in there) c.in-Some.reg c.in-Some-wanted_value.wanted c.in-Some-value_in.value c.fields.result.now
    (sym c.in-Some.is) c.in-Some-wanted_value.ensures c.in-Some-value_in.ensures c.fields.ensures in
    record { writes = subst IsText (sym same) c.write_fields.ensures.writes }
