use Rattle.std.proofs.Common.{◌≡◌, ◌<◌, length}
use Rattle.em_tape.specs.Tape.{event_of}
use Rattle.em_debugger.specs.Deeper.{IsAgain}
use Rattle.em_debugger.proofs.AccessesLaws.{GoesOn}
use Rattle.em_debugger.proofs.debugger.Debugger.list_deeper.Given as goal

-- the tape has the same lines, which did the same, its journal holds the newest event, and so many were written
abbrev pub invariant-loop-count : goal.invariant-loop-count
invariant-loop-count g l =
    let contents = g.W.Write.contents in
    record {
      again : IsAgain l.fn.self.settings l.fn.self.tape l.deep;
      held : 0 < length l.deep.session.machine.past;
      fewer : l.count < l.most;
      on : GoesOn l.fn.self l.fn.deep l.deep l.sort l.before l.most (contents l.fn.writer) (contents l.writer) l.count;
    }

abbrev pub decreases-loop-count : goal.decreases-loop-count
decreases-loop-count g l = event_of l.deep
