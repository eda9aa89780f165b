use Rattle.std.proofs.Common.{◌≤◌, length}
use Rattle.em_input.proofs.head.whole_len.Given as goal

abbrev pub invariant-loop-whole : goal.invariant-loop-whole
invariant-loop-whole l = record {
  most : l.whole ≤ length l.script;
}

abbrev pub decreases-loop-whole : goal.decreases-loop-whole
decreases-loop-whole l = l.whole
