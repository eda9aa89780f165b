use Rattle.em_reasons.proofs.TroubleLemmas.{receives_as_told, transmits_as_told}
use Rattle.em_reasons.proofs.laws.troubles_are_refused.Goals as goal

pub returns : goal.returns
returns c = record { receives = receives_as_told; transmits = transmits_as_told }
