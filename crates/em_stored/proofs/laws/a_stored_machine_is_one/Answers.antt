use Rattle.em_stored.proofs.StoredLaws.{stored_is_one}
use Rattle.em_stored.proofs.laws.a_stored_machine_is_one.Goals as goal

pub returns : goal.returns
returns c = stored_is_one
