use Rattle.em_debugger.proofs.NextLaws.{ShowsSo}
use Rattle.em_debugger.proofs.debugger.Debugger.next.Given as goal

-- so many lines were performed and shown
abbrev pub invariant-loop-index : goal.invariant-loop-index
invariant-loop-index g l =
    let contents = g.W.Write.contents in
    ShowsSo l.fn.self l.self (contents l.fn.writer) (contents l.writer) l.index
