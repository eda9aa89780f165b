use Rattle.em_step_laws.proofs.InertLaws.{alike}
use Rattle.em_step_laws.proofs.laws.registers_without_a_rule_are_inert.Goals as goal

pub returns : goal.returns
returns c = alike
