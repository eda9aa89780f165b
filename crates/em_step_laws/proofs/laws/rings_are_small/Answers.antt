use Rattle.em_step_laws.proofs.ReachedLaws.{few_reached}
use Rattle.em_step_laws.proofs.laws.rings_are_small.Goals as goal

pub returns : goal.returns
returns c = few_reached
