use Rattle.em_reduce.specs.Reduce.{Reduces}
use Rattle.em_reduce.proofs.fewer.one_by_one.Given as goal

-- those that are left have it
abbrev pub invariant-loop-rounds : goal.invariant-loop-rounds
invariant-loop-rounds g l = Reduces (g.T.Trial.has l.fn.trial) l.fn.items.items l.left.items
