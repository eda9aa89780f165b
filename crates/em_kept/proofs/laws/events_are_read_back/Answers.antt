use Rattle.em_kept.proofs.LineLaws.{event_reads}
use Rattle.em_kept.proofs.laws.events_are_read_back.Goals as goal

pub returns : goal.returns
returns c = event_reads
