use Rattle.em_debugger.proofs.why.write_unseen_setter.Goals as goal

pub returns-in-Memory : goal.returns-in-Memory
returns-in-Memory g c = record { writes = rw c.in-Memory.is c.write_whole.ensures.writes }
