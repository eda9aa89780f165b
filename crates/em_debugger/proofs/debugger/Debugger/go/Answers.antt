use Rattle.std.proofs.Common.{true, false}
use Rattle.em_debugger.proofs.debugger.Debugger.go.Goals as goal

pub returns-in-Ok-clause-goes : goal.returns-in-Ok-clause-goes
returns-in-Ok-clause-goes g c = (true, (c.in-Ok.ensures.kept, c.in-Ok.ensures.near), c.write_reached.ensures.writes)

pub returns-in-Err-clause-goes : goal.returns-in-Err-clause-goes
returns-in-Err-clause-goes g c = (false, c.in-Err.ensures.err, c.write_refused.ensures.writes)
