use Rattle.std.proofs.Common.{length}
use Rattle.em_debugger.proofs.debugger.Debugger.+write_looks.Given as goal

abbrev pub decreases-write_looks : goal.decreases-write_looks
decreases-write_looks g l = length l.looks.now
