use Rattle.em_recording.proofs.RunLaws.{profile_stays}
use Rattle.em_recording.proofs.laws.a_profile_stays.Goals as goal

pub returns : goal.returns
returns c = profile_stays
