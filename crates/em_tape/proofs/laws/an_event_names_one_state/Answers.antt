use Rattle.em_tape.proofs.OneStateLaws.{same_event, same_number}
use Rattle.em_tape.proofs.laws.an_event_names_one_state.Goals as goal

pub returns : goal.returns
returns c = record { named = same_event; numbered = same_number }
