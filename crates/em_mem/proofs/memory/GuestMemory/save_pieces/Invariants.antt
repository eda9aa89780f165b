use Rattle.std.proofs.Common.{◌≡◌, ◌≤◌, ◌+◌, ◌-◌}
use Rattle.em_mem.specs.Memory.{part}
use Rattle.em_mem.specs.OldOctets.{saved}
use Rattle.em_mem.proofs.memory.GuestMemory.save_pieces.Given as goal

-- what lies behind those that are left is saved
abbrev pub invariant-loop-left : goal.invariant-loop-left
invariant-loop-left l = record {
  within : l.left ≤ l.initial.left;
  saved : l.old ≡ saved (part l.self.octets (l.addr + l.left) (l.initial.left - l.left)) l.initial.old;
}

abbrev pub decreases-loop-left : goal.decreases-loop-left
decreases-loop-left l = l.left
