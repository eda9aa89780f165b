use Rattle.std.proofs.Common.{◌∙◌, ap}
use Rattle.em_step.specs.State.{State}
use Rattle.em_reasons.proofs.registers.registers.Goals as goal

pub returns : goal.returns
returns c = c.registers.ensures ∙ ap (λ (s : State). s.registers) c.adapter.ensures
