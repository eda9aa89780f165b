use Rattle.std.proofs.Common.{◌≡◌, take, vec_capacity}
use Rattle.em_tx.proofs.gather.copy_octets.Given as goal

abbrev pub invariant-loop-octet : goal.invariant-loop-octet
invariant-loop-octet l = record {
  items : l.copy.items ≡ take l.octet-index l.octets;
  room : vec_capacity l.copy ≡ l.room;
}
