use Rattle.em_kept.proofs.SourcePlaces.{plain_stays}
use Rattle.em_kept.proofs.laws.a_plain_name_stays.Goals as goal

pub returns : goal.returns
returns c = plain_stays
