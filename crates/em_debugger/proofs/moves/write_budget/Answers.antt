use Rattle.std.proofs.Common.{arith}
use Rattle.em_debugger.proofs.TextLaws.{Writes-below}
use Rattle.em_debugger.proofs.moves.write_budget.Goals as goal

pub returns-then-newest-gt0 : goal.returns-then-newest-gt0
returns-then-newest-gt0 g c = record {
  writes = rw c.if-fewer.true (Writes-below _ _ _ 0 c.args.newest _ _ (omega arith) c.write_whole.ensures.writes);
}
