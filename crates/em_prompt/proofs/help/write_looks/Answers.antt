use Rattle.std.proofs.lemmas.Result.{MatchResult-from_err}
use Rattle.em_text.proofs.WritingLemmas.{WritesPart-among}
use Rattle.em_prompt.specs.Help.{line_of_look}
use Rattle.em_prompt.proofs.help.write_looks.Goals as goal

pub returns-in_err-write_help : goal.returns-in_err-write_help
returns-in_err-write_help g c = record {
  writes = MatchResult-from_err _ _ _ c.from_residual.ensures.0 (λ _.
      WritesPart-among line_of_look c.args.looks.now c.loop-look.look-index _
      c.loop-look-test.true c.loop-look.invariant c.in_err-write_help.ensures.writes);
}
