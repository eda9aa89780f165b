use Rattle.em_journal.proofs.BudgetLaws.{reach_within, reach_most}
use Rattle.em_journal.proofs.laws.reach_is_most.Goals as goal

pub returns-clause-within : goal.returns-clause-within
returns-clause-within c = reach_within

pub returns-clause-most : goal.returns-clause-most
returns-clause-most c = reach_most
