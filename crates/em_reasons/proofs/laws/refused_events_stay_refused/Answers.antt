use Rattle.em_reasons.proofs.RefusedStay.{stays_refused, stays_refused_so}
use Rattle.em_reasons.proofs.laws.refused_events_stay_refused.Goals as goal

pub returns : goal.returns
returns c = record { again = stays_refused; same = stays_refused_so }
