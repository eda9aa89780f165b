use Rattle.std.proofs.lemmas.Result.{MatchResult-from_err}
use Rattle.em_text.proofs.WritingLemmas.{WritesPart-among}
use Rattle.em_debugger.specs.Warned.{name_text}
use Rattle.em_debugger.proofs.warned.write_names.Goals as goal

pub returns-in_err-write_name : goal.returns-in_err-write_name
returns-in_err-write_name g c = record {
  writes = MatchResult-from_err _ _ _ c.from_residual.ensures.0 (λ _.
      WritesPart-among name_text c.args.rules.now c.loop-rule.rule-index _
      c.loop-rule-test.true c.loop-rule.invariant c.in_err-write_name.ensures.writes);
}
