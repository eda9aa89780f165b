use Rattle.std.proofs.lemmas.Result.{MatchResult-from_err}
use Rattle.em_text.proofs.WritingLemmas.{WritesPart-among}
use Rattle.em_debugger.specs.Warned.{rule_text}
use Rattle.em_debugger.proofs.debugger.Debugger.write_rules.Goals as goal

pub returns-in_err-write_rule : goal.returns-in_err-write_rule
returns-in_err-write_rule g c = record {
  writes = MatchResult-from_err _ _ _ c.from_residual.ensures.0 (λ _.
      WritesPart-among (rule_text c.args.self.now c.args.end) c.args.rules.now c.loop-rule.rule-index _
      c.loop-rule-test.true c.loop-rule.invariant c.in_err-write_rule.ensures.writes);
}
