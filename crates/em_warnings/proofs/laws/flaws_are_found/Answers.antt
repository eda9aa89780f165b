use Rattle.em_warnings.proofs.FindLemmas.{flaw_found, no_flaw}
use Rattle.em_warnings.proofs.laws.flaws_are_found.Goals as goal

pub returns : goal.returns
returns c = record { found = flaw_found; none = no_flaw }
