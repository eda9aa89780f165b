use Rattle.std.proofs.Common.{◌≤◌}
use Rattle.em_debugger.proofs.HistoryLaws.{OpensSo}
use Rattle.em_debugger.proofs.history.write_opened.Given as goal

-- so many were written
abbrev pub invariant-loop-left : goal.invariant-loop-left
invariant-loop-left g l =
    let contents = g.W.Write.contents in
    record {
      within : l.left ≤ l.events;
      opens : OpensSo l.tape l.here l.events l.left (contents l.fn.writer) (contents l.writer);
    }

abbrev pub decreases-loop-left : goal.decreases-loop-left
decreases-loop-left g l = l.left
