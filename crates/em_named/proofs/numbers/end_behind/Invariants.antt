use Rattle.std.proofs.Common.{◌≡◌, ◌-◌, ◌<◌, ◌≤◌, length}
use Rattle.em_named.specs.Numbers.{end_of}
use Rattle.em_named.proofs.numbers.end_behind.Given as goal

-- it is an end
abbrev pub invariant-loop-end : goal.invariant-loop-end
invariant-loop-end l =
    record { events : l.end.events ≡ end_of l.end.line l.did; within : l.end.line ≤ length l.did }

abbrev pub decreases-loop-end : goal.decreases-loop-end
decreases-loop-end l = l.end.line

-- and that of the line before lies before the event
abbrev pub invariant-loop-end-2 : goal.invariant-loop-end-2
invariant-loop-end-2 l =
    record {
      events : l.end.events ≡ end_of l.end.line l.did;
      within : l.end.line ≤ length l.did;
      before : 0 < l.end.line → end_of (l.end.line - 1) l.did < l.event;
    }

abbrev pub decreases-loop-end-2 : goal.decreases-loop-end-2
decreases-loop-end-2 l = length l.did - l.end.line
