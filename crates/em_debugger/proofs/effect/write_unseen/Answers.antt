use Rattle.em_debugger.proofs.effect.write_unseen.Goals as goal

pub returns-in-Memory : goal.returns-in-Memory
returns-in-Memory g c = record { writes = rw c.in-Memory.is c.write_whole.ensures.writes }
