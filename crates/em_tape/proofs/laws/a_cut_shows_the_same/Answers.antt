use Rattle.em_tape.proofs.OneStateLaws.{cut_driver, cut_state}
use Rattle.em_tape.proofs.laws.a_cut_shows_the_same.Goals as goal

pub returns : goal.returns
returns c = record { state = cut_state; driver = cut_driver }
