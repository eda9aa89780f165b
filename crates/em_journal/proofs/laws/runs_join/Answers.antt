use Rattle.em_journal.proofs.HistoryLaws.{run_join}
use Rattle.em_journal.proofs.laws.runs_join.Goals as goal

pub returns : goal.returns
returns c = run_join
