use Rattle.em_script.proofs.CallingLemmas.{request_happens, named_says}
use Rattle.em_script.proofs.laws.a_request_is_played_or_says_so.Goals as goal

pub returns : goal.returns
returns c = record { happens = request_happens; says = named_says }
