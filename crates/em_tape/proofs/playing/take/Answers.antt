use Rattle.em_tape.proofs.DidLaws.{took_line}
use Rattle.em_tape.proofs.playing.take.Goals as goal

pub returns-clause-done : goal.returns-clause-done
returns-clause-done c = λ number line said.
    took_line number line c.args.events c.args.session.now c.back_by.new.self said c.requires c.back_by.ensures.session
