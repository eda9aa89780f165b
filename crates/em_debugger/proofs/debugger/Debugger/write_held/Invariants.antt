use Rattle.std.proofs.Common.{◌-◌}
use Rattle.em_debugger.proofs.AccessesLaws.{HeldSo}
use Rattle.em_debugger.proofs.debugger.Debugger.write_held.Given as goal

-- so many were written
abbrev pub invariant-loop-count : goal.invariant-loop-count
invariant-loop-count g l =
    let contents = g.W.Write.contents in
    HeldSo l.fn.self l.window l.sort l.most (contents l.fn.writer) (contents l.writer) l.back l.count

abbrev pub decreases-loop-count : goal.decreases-loop-count
decreases-loop-count g l = l.most - l.count
