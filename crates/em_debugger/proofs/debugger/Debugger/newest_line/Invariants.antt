use Rattle.std.proofs.Common.{◌≡◌, ◌≤◌}
use Rattle.em_debugger.specs.History.{newest_line}
use Rattle.em_debugger.proofs.debugger.Debugger.newest_line.Given as goal

abbrev pub invariant-loop-line : goal.invariant-loop-line
invariant-loop-line l =
    record {
      same : newest_line l.self.tape.did l.line ≡ newest_line l.self.tape.did l.last;
      within : l.line ≤ l.last;
    }

abbrev pub decreases-loop-line : goal.decreases-loop-line
decreases-loop-line l = l.line
