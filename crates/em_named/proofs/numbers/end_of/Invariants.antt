use Rattle.std.proofs.Common.{◌≡◌, ◌-◌, ◌≤◌, length}
use Rattle.em_named.specs.Numbers.{end_of}
use Rattle.em_named.proofs.numbers.end_of.Given as goal

-- it is an end, at first behind the one that is sought
abbrev pub invariant-loop-end : goal.invariant-loop-end
invariant-loop-end l =
    record { events : l.end.events ≡ end_of l.end.line l.did; within : l.end.line ≤ length l.did }

abbrev pub decreases-loop-end : goal.decreases-loop-end
decreases-loop-end l = l.end.line

abbrev pub invariant-loop-end-2 : goal.invariant-loop-end-2
invariant-loop-end-2 l =
    record { events : l.end.events ≡ end_of l.end.line l.did; within : l.end.line ≤ l.line }

abbrev pub decreases-loop-end-2 : goal.decreases-loop-end-2
decreases-loop-end-2 l = l.line - l.end.line
