use Rattle.em_stored.specs.Stored.{body, stored}
use Rattle.em_stored.proofs.FrontLaws.{passes}
use Rattle.em_stored.proofs.laws.a_stored_machine_has_no_fault.Goals as goal

pub returns : goal.returns
unfolding stored
returns c h b s few = passes (body h b s) few
