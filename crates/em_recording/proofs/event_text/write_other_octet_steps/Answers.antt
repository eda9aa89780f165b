use Rattle.std.proofs.Common.{◌++◌, subst}
use Rattle.std.specs.Prelude.{codes}
use Rattle.std.proofs.lemmas.Result.{MatchResult-from_err}
use Rattle.em_text.proofs.WritingLemmas.{WritesPart-among}
use Rattle.em_text.specs.Writer.{WritesPart}
use Rattle.em_recording.specs.EventText.{change_text}
use Rattle.em_recording.proofs.event_text.write_other_octet_steps.Goals as goal

pub returns-in_err-write_other_octet_step : goal.returns-in_err-write_other_octet_step
returns-in_err-write_other_octet_step g c =
    let contents = g.W.Write.contents in
    let part = subst (λ step. WritesPart (contents c.loop-step.writer) (contents c.write_other_octet_step.new.writer)
    (codes "," ++ change_text step)) c.step-item.is c.in_err-write_other_octet_step.ensures.writes in
    record {
      writes = MatchResult-from_err _ _ _ c.from_residual.ensures.0 (λ _.
          WritesPart-among (λ step. codes "," ++ change_text step) c.args.steps.now c.loop-step.step-index
          c.step-item.result c.loop-step-test.true c.loop-step.invariant part);
    }
