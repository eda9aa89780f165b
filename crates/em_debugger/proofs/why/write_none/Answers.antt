use Rattle.em_debugger.proofs.why.write_none.Goals as goal

pub returns-in-Undone : goal.returns-in-Undone
returns-in-Undone g c = record { writes = rw c.in-Undone.is c.write_whole.ensures.writes }
