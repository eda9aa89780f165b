use Rattle.em_step_laws.proofs.MachineLaws.{machine_reached}
use Rattle.em_step_laws.proofs.laws.machines_are_reached.Goals as goal

pub returns : goal.returns
returns c = machine_reached
