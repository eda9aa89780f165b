use Rattle.em_tape.proofs.CutLaws.{is_cut}
use Rattle.em_tape.proofs.tape.Tape.cut.Goals as goal

pub returns-clause-ok : goal.returns-clause-ok
returns-clause-ok c =
    is_cut c.cut_place-place.ensures c.in_ok-be_at.ensures.ok c.be_at.ensures.here c.drop_ahead-dropped.ensures.tape
    c.drop_ahead-dropped.ensures.dropped c.in_ok-take_for_good.ensures.ok c.take_for_good.ensures.none
