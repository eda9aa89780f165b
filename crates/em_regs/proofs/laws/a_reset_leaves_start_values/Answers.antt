use Rattle.em_regs.proofs.ResetLaws.{started_at, left_by_reset, low_left, high_left, reset_again}
use Rattle.em_regs.proofs.laws.a_reset_leaves_start_values.Goals as goal

pub returns-clause-start : goal.returns-clause-start
returns-clause-start c = started_at

pub returns-clause-left : goal.returns-clause-left
returns-clause-left c = left_by_reset

pub returns-clause-low : goal.returns-clause-low
returns-clause-low c = low_left

pub returns-clause-high : goal.returns-clause-high
returns-clause-high c = high_left

pub returns-clause-again : goal.returns-clause-again
returns-clause-again c = reset_again
