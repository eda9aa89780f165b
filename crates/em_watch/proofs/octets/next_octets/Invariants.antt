use Rattle.std.proofs.Common.{◌≤◌, ◌-◌, length}
use Rattle.em_watch.specs.MemoryChange.{LeavesOctets}
use Rattle.em_watch.proofs.octets.next_octets.Given as goal

abbrev pub invariant-loop-window : goal.invariant-loop-window
invariant-loop-window l = record {
  from : l.from ≤ l.next;
  left : LeavesOctets l.machine l.back l.from l.next;
}

abbrev pub decreases-loop-window : goal.decreases-loop-window
decreases-loop-window l = length l.machine.present.memory - l.next
