use Rattle.em_debugger.proofs.StopsLaws.{RunsSo}
use Rattle.em_debugger.proofs.debugger.Debugger.play_until.Given as goal

-- so many lines were performed
abbrev pub invariant-loop-lines : goal.invariant-loop-lines
invariant-loop-lines l = RunsSo l.fn.stop l.fn.self l.self l.lines
