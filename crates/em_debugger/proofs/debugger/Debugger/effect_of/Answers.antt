use Rattle.std.proofs.Common.{sym, ◌∙◌}
use Rattle.em_debugger.specs.Effect.{AnswersEffect, none_text}
use Rattle.em_debugger.proofs.EffectLaws.{answers_none, told_answer}
use Rattle.em_debugger.proofs.TextLaws.{OnOk-written}
use Rattle.em_debugger.proofs.debugger.Debugger.effect_of.Goals as goal

pub returns-then-stands : goal.returns-then-stands
returns-then-stands g c = record {
  ok = told_answer _ _ c.write_standing.result c.args.self.now c.args.event
      (sym c.stands.ensures ∙ c.if-stands.true) c.write_standing.ensures.ok;
}

pub returns-else-stands : goal.returns-else-stands
returns-else-stands g c =
    let d = c.args.self.now in
    record {
      ok = OnOk-written _ _ _ (none_text d.tape) (AnswersEffect d c.args.event) c.write_none.ensures.writes
          (answers_none d c.args.event (sym c.stands.ensures ∙ c.if-stands.false));
    }
