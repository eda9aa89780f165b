use Rattle.std.proofs.Common.{◌≡◌, ◌≤◌, length}
use Rattle.em_c.specs.AllRegisters.{registers_below}
use Rattle.em_c.proofs.all_registers.count_all.Given as goal

abbrev pub invariant-loop-word : goal.invariant-loop-word
invariant-loop-word l = record {
  counted : l.count ≡ length (registers_below l.word l.machine);
  most : l.count ≤ l.word;
}
