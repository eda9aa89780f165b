use Rattle.em_reasons.proofs.LostLemmas.{stays_lost}
use Rattle.em_reasons.proofs.laws.dropped_frames_stay_dropped.Goals as goal

pub returns : goal.returns
returns c = stays_lost
