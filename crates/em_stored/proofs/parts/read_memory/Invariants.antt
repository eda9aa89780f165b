use Rattle.std.proofs.Common.{◌≡◌, ◌+◌, length}
use Rattle.em_stored.proofs.parts.read_memory.Given as goal

-- memory lies where it lay
abbrev pub invariant-loop-k : goal.invariant-loop-k
invariant-loop-k l = record {
  base : l.memory.base ≡ l.base;
  end : length l.memory.octets ≡ l.base + l.size;
}
