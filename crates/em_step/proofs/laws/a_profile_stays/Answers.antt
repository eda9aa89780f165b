use Rattle.em_step.proofs.ProfileLaws.{event_keeps}
use Rattle.em_step.proofs.laws.a_profile_stays.Goals as goal

pub returns : goal.returns
returns c = event_keeps
