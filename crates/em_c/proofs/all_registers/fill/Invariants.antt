use Rattle.std.proofs.Common.{◌≡◌, ◌++◌, drop, length}
use Rattle.em_c.specs.AllRegisters.{registers_below}
use Rattle.em_c.proofs.all_registers.fill.Given as goal

abbrev pub invariant-loop-word : goal.invariant-loop-word
invariant-loop-word l = record {
  counted : l.at ≡ length (registers_below l.word l.machine);
  filled : l.out ≡ registers_below l.word l.machine
      ++ drop (length (registers_below l.word l.machine)) l.initial.out;
}
