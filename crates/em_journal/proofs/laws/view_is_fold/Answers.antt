use Rattle.em_journal.proofs.HistoryLaws.{item_is, costs_are, past_length, empty_past}
use Rattle.em_journal.proofs.laws.view_is_fold.Goals as goal

pub returns-clause-states : goal.returns-clause-states
returns-clause-states c = item_is

pub returns-clause-costs : goal.returns-clause-costs
returns-clause-costs c = costs_are

pub returns-clause-reach : goal.returns-clause-reach
returns-clause-reach c = past_length

pub returns-clause-empty : goal.returns-clause-empty
returns-clause-empty c = empty_past
