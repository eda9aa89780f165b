use Rattle.std.proofs.Common.{length, ◌-◌, ◌≡◌, ◌≤◌, take}
use Rattle.em_mem.specs.Memory.{put}
use Rattle.em_mem.proofs.memory.GuestMemory.write_pieces.Given as goal

abbrev pub invariant-loop-done : goal.invariant-loop-done
invariant-loop-done l = record {
  within : l.done ≤ length l.written;
  begins : l.self.base ≡ l.initial.self.base;
  wrote : l.self.octets ≡ put l.initial.self.octets l.addr (take l.done l.written);
  kept : l.self.made ≡ l.initial.self.made;
}

abbrev pub decreases-loop-done : goal.decreases-loop-done
decreases-loop-done l = length l.written - l.done
