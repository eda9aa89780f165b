use Rattle.std.proofs.Common.{◌≡◌, ◌≤◌, length, drop}
use Rattle.em_c.proofs.difference.up_to_last.Given as goal

abbrev pub invariant-loop-last : goal.invariant-loop-last
invariant-loop-last l = record {
  most : l.last ≤ length l.new;
  same : drop l.last l.old ≡ drop l.last l.new;
}

abbrev pub decreases-loop-last : goal.decreases-loop-last
decreases-loop-last l = l.last
