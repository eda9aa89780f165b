use Rattle.std.proofs.lemmas.Result.{MatchResult-from_err}
use Rattle.em_text.proofs.WritingLemmas.{WritesPart-among}
use Rattle.em_warnings.specs.Warnings.{line_of}
use Rattle.em_warnings.proofs.lines.write_each.Goals as goal

pub returns-in_err-write_line : goal.returns-in_err-write_line
returns-in_err-write_line g c = record {
  writes = MatchResult-from_err _ _ _ c.from_residual.ensures.0 (λ _.
      WritesPart-among line_of c.args.warnings.now c.loop-warning.warning-index _
      c.loop-warning-test.true c.loop-warning.invariant c.in_err-write_line.ensures.writes);
}
