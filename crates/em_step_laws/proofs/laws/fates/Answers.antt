use Rattle.em_step_laws.proofs.FateLaws.{one_fate, no_other}
use Rattle.em_step_laws.proofs.laws.fates.Goals as goal

pub returns-clause-one : goal.returns-clause-one
returns-clause-one c = one_fate

pub returns-clause-alone : goal.returns-clause-alone
returns-clause-alone c = no_other
