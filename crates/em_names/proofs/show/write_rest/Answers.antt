use Rattle.std.proofs.Common.{arith}
use Rattle.std.specs.Prelude.{codes}
use Rattle.em_text.specs.Writer.{value_digits}
use Rattle.em_text.proofs.WritingLemmas.{Writes-more}
use Rattle.em_names.proofs.BitLaws.{rest_text-some}
use Rattle.em_names.proofs.show.write_rest.Goals as goal

pub returns : goal.returns
returns g c = record {
  writes = Writes-more _ _ _ _ (codes " ") (value_digits c.args.rest) _ c.in_ok-write_whole.ensures.writes
      c.write_value.ensures.writes (rest_text-some c.args.rest (λ e. absurd (omega arith)));
}
