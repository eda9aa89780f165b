use Rattle.std.proofs.Common.{◌≡◌, ◌+◌, ◌-◌, ◌≤◌, length}
use Rattle.em_debugger.specs.History.{lines_between}
use Rattle.em_debugger.proofs.debugger.Debugger.last_shown.Given as goal

-- so many lines are still to be found behind these
abbrev pub invariant-loop-last : goal.invariant-loop-last
invariant-loop-last l =
    record {
      behind : l.here ≤ l.last;
      within : l.last ≤ length l.self.tape.did;
      count : length (lines_between l.self.tape.did l.here l.last) + l.left ≡ l.most;
    }

abbrev pub decreases-loop-last : goal.decreases-loop-last
decreases-loop-last l = length l.self.tape.did - l.last
