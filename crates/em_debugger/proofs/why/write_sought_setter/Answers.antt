use Rattle.em_debugger.proofs.why.write_sought_setter.Goals as goal

pub returns-in-Never : goal.returns-in-Never
returns-in-Never g c = record { writes = rw c.in-Never.is c.write_whole.ensures.writes }
