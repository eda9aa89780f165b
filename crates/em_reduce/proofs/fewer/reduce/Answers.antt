use Rattle.em_reduce.proofs.PartLaws.{IfOk-more, Reduces-more, Reduces-none}
use Rattle.em_reduce.proofs.fewer.reduce.Goals as goal

pub loop-size-init : goal.loop-size-init
loop-size-init g c = Reduces-none c.args.items.items c.requires

pub loop-size-preserved : goal.loop-size-preserved
loop-size-preserved g c = Reduces-more c.loop-size.invariant c.in_ok-left.ensures.ok

pub returns : goal.returns
returns g c = record { ok = IfOk-more (λ v. v.items) c.one_by_one.result c.loop-size.invariant c.one_by_one.ensures.ok }
