use Rattle.em_script.proofs.CallingLemmas.{told_address}
use Rattle.em_script.proofs.calling.tell_address.Goals as goal

pub returns-clause-course : goal.returns-clause-course
returns-clause-course g c = told_address _ _ _ c.get_mac_addr.ensures.course
