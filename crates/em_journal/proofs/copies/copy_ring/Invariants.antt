use Rattle.std.proofs.Common.{◌≡◌, length, take}
use Rattle.em_journal.specs.Copies.{AreCopies}
use Rattle.em_journal.proofs.copies.copy_ring.Given as goal

abbrev pub invariant-loop-k : goal.invariant-loop-k
invariant-loop-k l = record {
  records : AreCopies (take l.k l.ring.items) l.copy.items;
  len : length l.copy.items ≡ l.k;
  places : l.copy.capacity ≡ l.ring.capacity;
}
