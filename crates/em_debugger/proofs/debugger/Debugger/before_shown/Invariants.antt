use Rattle.std.proofs.Common.{◌≡◌, ◌+◌, ◌≤◌, length}
use Rattle.em_debugger.specs.History.{lines_between}
use Rattle.em_debugger.proofs.debugger.Debugger.before_shown.Given as goal

-- so many lines are still to be found before these
abbrev pub invariant-loop-before : goal.invariant-loop-before
invariant-loop-before l =
    record {
      within : l.before ≤ l.here;
      count : length (lines_between l.self.tape.did l.before l.here) + l.left ≡ l.most;
    }

abbrev pub decreases-loop-before : goal.decreases-loop-before
decreases-loop-before l = l.before
