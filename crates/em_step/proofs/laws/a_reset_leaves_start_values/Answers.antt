use Rattle.em_step.proofs.ResetLaws.{left_after_reset, zero_after_reset, low_after_reset, high_after_reset}
use Rattle.em_step.proofs.laws.a_reset_leaves_start_values.Goals as goal

pub returns-clause-stored : goal.returns-clause-stored
returns-clause-stored c = left_after_reset

pub returns-clause-zero : goal.returns-clause-zero
returns-clause-zero c = zero_after_reset

pub returns-clause-low : goal.returns-clause-low
returns-clause-low c = low_after_reset

pub returns-clause-high : goal.returns-clause-high
returns-clause-high c = high_after_reset
