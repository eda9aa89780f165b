use Rattle.std.proofs.Common.{◌≡◌, ◌≤◌, ◌-◌, length, take}
use Rattle.em_c.proofs.difference.same_at_head.Given as goal

abbrev pub invariant-loop-first : goal.invariant-loop-first
invariant-loop-first l = record {
  most : l.first ≤ length l.new;
  same : take l.first l.old ≡ take l.first l.new;
}

abbrev pub decreases-loop-first : goal.decreases-loop-first
decreases-loop-first l = length l.new - l.first
