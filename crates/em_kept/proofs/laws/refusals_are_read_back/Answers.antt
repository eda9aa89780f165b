use Rattle.em_kept.proofs.LineLaws.{refused_reads}
use Rattle.em_kept.proofs.laws.refusals_are_read_back.Goals as goal

pub returns : goal.returns
returns c = refused_reads
