use Rattle.em_tape.proofs.KeptLaws.{plays_from}
use Rattle.em_tape.proofs.tape.Tape.perform_next.Goals as goal

pub returns-in-Some-Ok-clause-ok : goal.returns-in-Some-Ok-clause-ok
returns-in-Some-Ok-clause-ok g c =
    plays_from c.in_ok-be_whole.ensures.ok c.be_whole.ensures.here
    (rw c.in-Some-Ok.field-0-is at c.in-Some-Ok.ensures.done)

pub returns-in-Some-Err-clause-write : goal.returns-in-Some-Err-clause-write
returns-in-Some-Err-clause-write g c = λ _. (
  c.in-Some-Err.field-0-0,
  plays_from c.in_ok-be_whole.ensures.ok c.be_whole.ensures.here
      (rw c.in-Some-Err.field-0-is at c.in-Some-Err.ensures.done),
)
