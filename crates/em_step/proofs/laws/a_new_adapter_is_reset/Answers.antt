use Rattle.em_step.proofs.ResetLaws.{new_is_reset}
use Rattle.em_step.proofs.laws.a_new_adapter_is_reset.Goals as goal

pub returns : goal.returns
returns c = new_is_reset
