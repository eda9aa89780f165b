use Rattle.em_warnings.proofs.AskedLaws.{unasked}
use Rattle.em_warnings.proofs.laws.nothing_is_found_unasked.Goals as goal

pub returns : goal.returns
returns c = unasked
