use Rattle.em_reduce.specs.Reduce.{Reduces}
use Rattle.em_reduce.proofs.fewer.reduce.Given as goal

-- those that are left have it
abbrev pub invariant-loop-size : goal.invariant-loop-size
invariant-loop-size g l = Reduces (g.T.Trial.has l.fn.trial) l.fn.items.items l.left.items

abbrev pub decreases-loop-size : goal.decreases-loop-size
decreases-loop-size g l = l.size
