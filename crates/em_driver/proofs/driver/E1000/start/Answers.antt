use Rattle.em_driver.proofs.bring_up.StartOrder.{start_order}
use Rattle.std.proofs.Common.{sym, arith}
use Rattle.em_driver.proofs.rings.MemoryUnits.{good_same}
use Rattle.em_driver.proofs.course.StartCourse.{placed}
use Rattle.em_driver.proofs.driver.E1000.start.Goals as goal

pub invariant_of-driver : goal.invariant_of-driver
invariant_of-driver g c = record {
  placed = placed c.base.result c.end.result c.args.layout (c.is_good.ensures.0 c.if-is_good.true)
      (omega (arith, c.end.type_inv));
}

pub returns-in-Ok-clause-good : goal.returns-in-Ok-clause-good
returns-in-Ok-clause-good g c =
    good_same c.args.layout (sym c.base.ensures) (sym c.end.ensures) (c.is_good.ensures.0 c.if-is_good.true)

pub returns-in-Ok-clause-order : goal.returns-in-Ok-clause-order
returns-in-Ok-clause-order g c =
    let good = c.is_good.ensures.0 c.if-is_good.true in
    λ spared profile. start_order c.args.layout (g.B.Bus.world c.args.bus) (g.B.Bus.world c.initialize.new.self.driver.bus)
    c.initialize.new.self.events (good_same c.args.layout (sym c.base.ensures) (sym c.end.ensures) good)
    (placed c.base.result c.end.result c.args.layout good (omega (arith, c.end.type_inv))) spared profile c.in-Ok.ensures.ok

pub returns-in-Err-clause-untouched : goal.returns-in-Err-clause-untouched
returns-in-Err-clause-untouched g c = λ bad.
    absurd (bad (good_same c.args.layout (sym c.base.ensures) (sym c.end.ensures)
    (c.is_good.ensures.0 c.if-is_good.true)))

pub returns-in-Err-clause-stopped : goal.returns-in-Err-clause-stopped
returns-in-Err-clause-stopped g c = λ _. rw c.into_bus.ensures c.in-Err.ensures.err

pub returns-else-is_good-clause-stopped : goal.returns-else-is_good-clause-stopped
returns-else-is_good-clause-stopped g c = λ good.
    let yes = c.is_good.ensures.1 (good_same c.args.layout c.base.ensures c.end.ensures good) in let no = c.if-is_good.false in absurd cc
