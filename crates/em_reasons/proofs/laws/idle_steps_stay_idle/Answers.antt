use Rattle.em_reasons.proofs.StayLemmas.{stays_idle_receiving, stays_idle_sending}
use Rattle.em_reasons.proofs.laws.idle_steps_stay_idle.Goals as goal

pub returns : goal.returns
returns c = record { receives = stays_idle_receiving; transmits = stays_idle_sending }
