use Rattle.em_kept.proofs.LineLaws.{back_reads}
use Rattle.em_kept.proofs.laws.steps_back_are_read_back.Goals as goal

pub returns : goal.returns
returns c = back_reads
