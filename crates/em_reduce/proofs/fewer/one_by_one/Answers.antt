use Rattle.em_reduce.proofs.PartLaws.{Reduces-more, Reduces-none}
use Rattle.em_reduce.proofs.fewer.one_by_one.Goals as goal

pub loop-rounds-init : goal.loop-rounds-init
loop-rounds-init g c = Reduces-none c.args.items.items c.requires

pub returns-then-len-before : goal.returns-then-len-before
returns-then-len-before g c = record { ok = Reduces-more c.loop-rounds.invariant c.in_ok-left.ensures.ok }

pub loop-rounds-preserved : goal.loop-rounds-preserved
loop-rounds-preserved g c = Reduces-more c.loop-rounds.invariant c.in_ok-left.ensures.ok
