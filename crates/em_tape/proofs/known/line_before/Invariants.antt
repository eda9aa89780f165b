use Rattle.std.proofs.Common.{◌≡◌, ◌≤◌, ◌-◌, Some, drop, take}
use Rattle.em_tape.specs.Known.{events_in}
use Rattle.em_tape.proofs.known.line_before.Given as goal

-- so many lie behind the line so far
abbrev pub invariant-loop-left : goal.invariant-loop-left
invariant-loop-left l =
    record {
      within : l.line ≤ l.whole;
      few : l.left ≤ l.events;
      behind : events_in (take (l.whole - l.line) (drop l.line l.known)) ≡ Some (l.events - l.left);
    }

abbrev pub decreases-loop-left : goal.decreases-loop-left
decreases-loop-left l = l.line
