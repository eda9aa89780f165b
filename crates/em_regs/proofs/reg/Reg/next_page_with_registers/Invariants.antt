use Rattle.std.proofs.Common.{◌≡◌, ◌≤◌, ◌-◌, ◌%◌}
use Rattle.em_regs.specs.Table.{NoneFrom}
use Rattle.em_regs.proofs.reg.Reg.next_page_with_registers.Given as goal

abbrev pub invariant-loop-next : goal.invariant-loop-next
invariant-loop-next l = record {
  behind : l.fn.offset ≤ l.next;
  whole : l.next % 4 ≡ 0;
  none : NoneFrom l.fn.offset l.next;
}

abbrev pub decreases-loop-next : goal.decreases-loop-next
decreases-loop-next l = 0x06000 - l.next
