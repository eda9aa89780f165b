use Rattle.std.proofs.Common.{◌≡◌, ◌≤◌}
use Rattle.em_debugger.specs.Why.{newest_such}
use Rattle.em_debugger.proofs.debugger.Debugger.newest_such.Given as goal

-- none of those behind the line so far
abbrev pub invariant-loop-line : goal.invariant-loop-line
invariant-loop-line l =
    record {
      same : newest_such l.such l.self l.line ≡ newest_such l.such l.self l.last;
      within : l.line ≤ l.last;
    }

abbrev pub decreases-loop-line : goal.decreases-loop-line
decreases-loop-line l = l.line
