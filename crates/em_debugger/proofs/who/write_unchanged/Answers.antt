use Rattle.em_debugger.proofs.who.write_unchanged.Goals as goal

pub returns-then-is_before : goal.returns-then-is_before
returns-then-is_before g c = record { writes = rw c.if-is_before.true c.write_unchanged_and.ensures.writes }
