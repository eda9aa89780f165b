use Rattle.std.proofs.Common.{ap, arith}
use Rattle.em_turn.specs.Planned.{planned}
use Rattle.em_turn.specs.Turn.{arrivals, plan_arrivals, plan_turns}
use Rattle.em_driver.proofs.course.Arrivals.{arrivals_least}
use Rattle.em_driver.proofs.counting.arrivals_of_plan.Goals as goal

pub arrivals_of-count-requires : goal.arrivals_of-count-requires
arrivals_of-count-requires c =
    let step = ap (λ q. plan_turns (planned q)) c.in-Some.ensures.steps in
    omega (arith, step, c.loop-turns.invariant.2.few)

pub overflow_add-count : goal.overflow_add-count
overflow_add-count c =
    let turns = ap (λ q. plan_turns (planned q)) c.in-Some.ensures.steps in
    let same = ap arrivals c.deref.ensures.value in
    omega (
      arith,
      turns,
      same,
      c.loop-turns.invariant.2.few,
      c.arrivals_of-count.ensures,
      arrivals_least c.in-Some.turns.now.items,
      c.requires,
    )

pub loop-turns-preserved : goal.loop-turns-preserved
loop-turns-preserved c =
    let turns = ap (λ q. plan_turns (planned q)) c.in-Some.ensures.steps in
    let arrive = ap (λ q. plan_arrivals (planned q)) c.in-Some.ensures.steps in
    let same = ap arrivals c.deref.ensures.value in (
      tt,
      tt,
      record {
        counted = omega (arith, arrive, same, c.loop-turns.invariant.2.counted, c.arrivals_of-count.ensures);
        few = omega (
          arith,
          turns,
          same,
          c.loop-turns.invariant.2.few,
          c.arrivals_of-count.ensures,
          arrivals_least c.in-Some.turns.now.items,
        );
      },
    )
