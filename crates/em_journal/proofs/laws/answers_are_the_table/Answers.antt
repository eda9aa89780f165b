use Rattle.em_journal.proofs.HistoryLaws.{answer_is, refusal_is}
use Rattle.em_journal.proofs.laws.answers_are_the_table.Goals as goal

pub returns-clause-answers : goal.returns-clause-answers
returns-clause-answers c = answer_is

pub returns-clause-refusals : goal.returns-clause-refusals
returns-clause-refusals c = refusal_is
