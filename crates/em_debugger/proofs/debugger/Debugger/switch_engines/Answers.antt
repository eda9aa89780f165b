use Rattle.em_debugger.proofs.debugger.Debugger.switch_engines.Goals as goal

pub returns-then-on-clause-writes : goal.returns-then-on-clause-writes
returns-then-on-clause-writes g c = rw c.if-on.true c.write_whole.ensures.writes

pub returns-else-on-clause-writes : goal.returns-else-on-clause-writes
returns-else-on-clause-writes g c = rw c.if-on.false c.write_whole-else-on.ensures.writes
