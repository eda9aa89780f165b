use Rattle.std.proofs.Common.{◌≡◌, ◌+◌, ◌≤◌}
use Rattle.std.specs.VecDeque.Iter.{deque_iter_rest}
use Rattle.em_turn.specs.Planned.{planned}
use Rattle.em_turn.specs.Turn.{plan_arrivals, plan_turns}
use Rattle.em_driver.proofs.counting.arrivals_of_plan.Given as goal

abbrev pub invariant-loop-turns : goal.invariant-loop-turns
invariant-loop-turns l =
    (goal.iterator-loop-turns).can_next l.turns-iterator ×
    (goal.iterator-loop-turns).is_finite l.turns-iterator ×
    record {
      counted : l.count + plan_arrivals (planned (deque_iter_rest l.turns-iterator))
          ≡ plan_arrivals (planned l.fn.plan.items);
      few : l.count + plan_turns (planned (deque_iter_rest l.turns-iterator)) ≤ plan_turns (planned l.fn.plan.items);
    }
