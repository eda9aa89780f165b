use Rattle.em_reduce.specs.Reduce.{Reduces}
use Rattle.em_reduce.proofs.fewer.without_pieces.Given as goal

-- those that are left have it
abbrev pub invariant-loop-pieces : goal.invariant-loop-pieces
invariant-loop-pieces g l = Reduces (g.T.Trial.has l.fn.trial) l.fn.items.items l.left.items
