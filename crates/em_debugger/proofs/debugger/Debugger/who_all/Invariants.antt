use Rattle.em_debugger.proofs.WhoLaws.{ToldSo}
use Rattle.em_debugger.proofs.debugger.Debugger.who_all.Given as goal

abbrev pub decreases-loop-event : goal.decreases-loop-event
decreases-loop-event g l = l.event

-- so many changes were told
abbrev pub invariant-loop-event : goal.invariant-loop-event
invariant-loop-event g l =
    let contents = g.W.Write.contents in
    ToldSo l.fn.self l.fn.watch (contents l.fn.writer) (contents l.writer) l.event l.back l.count
