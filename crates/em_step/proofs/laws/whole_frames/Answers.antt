use Rattle.em_step.proofs.WholeLaws.{arrived, received_whole, sent_whole}
use Rattle.em_step.proofs.laws.whole_frames.Goals as goal

pub returns-clause-arrives : goal.returns-clause-arrives
returns-clause-arrives c = arrived

pub returns-clause-receives : goal.returns-clause-receives
returns-clause-receives c = received_whole

pub returns-clause-transmits : goal.returns-clause-transmits
returns-clause-transmits c = sent_whole
