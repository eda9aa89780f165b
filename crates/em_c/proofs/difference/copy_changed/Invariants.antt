use Rattle.std.proofs.Common.{◌≡◌, take}
use Rattle.em_c.proofs.difference.copy_changed.Given as goal

abbrev pub invariant-loop-i : goal.invariant-loop-i
invariant-loop-i l = record {
  same : take l.i l.there ≡ take l.i l.octets;
}
