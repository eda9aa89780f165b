use Rattle.std.proofs.Common.{◌++◌}
use Rattle.std.specs.Prelude.{codes}
use Rattle.std.proofs.lemmas.Result.{MatchResult-from_err}
use Rattle.em_text.proofs.WritingLemmas.{WritesPart-among}
use Rattle.em_recording.specs.EventText.{register_text}
use Rattle.em_recording.proofs.event_text.write_other_registers.Goals as goal

pub returns-in_err-write_other_register : goal.returns-in_err-write_other_register
returns-in_err-write_other_register g c = record {
  writes = MatchResult-from_err _ _ _ c.from_residual.ensures.0 (λ _.
      WritesPart-among (λ step. codes "," ++ register_text step) c.args.steps.now c.loop-step.step-index _
      c.loop-step-test.true c.loop-step.invariant c.in_err-write_other_register.ensures.writes);
}
