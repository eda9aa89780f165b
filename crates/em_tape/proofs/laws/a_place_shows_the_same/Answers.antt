use Rattle.em_tape.proofs.PlaceLaws.{place_is, place_takes_none}
use Rattle.em_tape.proofs.laws.a_place_shows_the_same.Goals as goal

pub returns : goal.returns
returns c = record { had = place_is; takes_none = place_takes_none }
