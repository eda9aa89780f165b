use Rattle.std.proofs.Common.{length, ◌-◌, ◌≡◌, ◌≤◌, take, drop}
use Rattle.em_mem.specs.Memory.{part, put}
use Rattle.em_mem.proofs.memory.GuestMemory.swap.Given as goal

abbrev pub invariant-loop-done : goal.invariant-loop-done
invariant-loop-done l = record {
  within : l.done ≤ length l.initial.swapped;
  begins : l.self.base ≡ l.initial.self.base;
  wrote : l.self.octets ≡ put l.initial.self.octets l.addr (take l.done l.initial.swapped);
  kept : l.self.made ≡ l.initial.self.made;
  old : take l.done l.swapped ≡ part l.initial.self.octets l.addr l.done;
  rest : drop l.done l.swapped ≡ drop l.done l.initial.swapped;
}

abbrev pub decreases-loop-done : goal.decreases-loop-done
decreases-loop-done l = length l.initial.swapped - l.done
