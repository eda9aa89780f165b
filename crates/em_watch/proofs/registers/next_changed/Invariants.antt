use Rattle.std.proofs.Common.{◌≡◌, ◌≤◌, ◌-◌, ◌%◌}
use Rattle.em_watch.specs.Difference.{LeavesRegisters}
use Rattle.em_watch.proofs.AloneLaws.{Behind}
use Rattle.em_watch.proofs.registers.next_changed.Given as goal

abbrev pub invariant-loop-next : goal.invariant-loop-next
invariant-loop-next l = record {
  whole : l.next % 4 ≡ 0;
  from : l.from ≤ l.next;
  left : LeavesRegisters l.machine l.back l.from l.next;
  behind : Behind l.machine l.back l.next l.end;
}

abbrev pub decreases-loop-next : goal.decreases-loop-next
decreases-loop-next l = 0x06000 - l.next
