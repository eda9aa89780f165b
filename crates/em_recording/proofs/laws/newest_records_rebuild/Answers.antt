use Rattle.em_recording.proofs.RunLaws.{newest_rebuilt}
use Rattle.em_recording.proofs.laws.newest_records_rebuild.Goals as goal

pub returns : goal.returns
returns c = newest_rebuilt
