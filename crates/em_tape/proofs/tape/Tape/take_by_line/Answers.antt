use Rattle.em_tape.proofs.CutLaws.{added_and_dropped, takes_line}
use Rattle.em_tape.proofs.tape.Tape.take_by_line.Goals as goal

pub returns-then-not-take_next-clause-err : goal.returns-then-not-take_next-clause-err
returns-then-not-take_next-clause-err c =
    added_and_dropped c.as_slice.result.now c.requires.whole c.requires.did c.in-Ok-add.ensures.ok
    (c.take_next.ensures.none c.if-not-take_next.true) c.drop_ahead.ensures.tape

pub returns-clause-ok : goal.returns-clause-ok
returns-clause-ok c =
    takes_line c.as_slice.result.now c.args.events c.requires.whole c.requires.did c.in-Ok-add.ensures.ok
    (c.take_next.ensures.done c.if-not-take_next.false)
