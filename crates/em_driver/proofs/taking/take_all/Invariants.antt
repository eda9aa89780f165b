use Rattle.std.proofs.Common.{◌≡◌, ◌+◌, ◌≤◌, ◌++◌, length, vec_len, vec_capacity}
use Rattle.std.specs.Vec.Iter.{into_iter_items}
use Rattle.em_driver.specs.Taking.{world_with}
use Rattle.em_turn.specs.Turn.{arrivals}
use Rattle.em_driver.specs.World.{after_turns}
use Rattle.em_driver.proofs.taking.take_all.Given as goal

abbrev pub invariant-loop-turn : goal.invariant-loop-turn
invariant-loop-turn g l =
    (goal.iterator-loop-turn g).can_next l.turn-iterator ×
    (goal.iterator-loop-turn g).is_finite l.turn-iterator ×
    record {
      list : l.fn.turns.items ≡ l.yielded ++ into_iter_items l.turn-iterator;
      world : world_with (g.M.Acts.shows l.machine) l.stored.items l.counts
          ≡ after_turns (world_with (g.M.Acts.shows l.initial.machine) l.initial.stored.items l.initial.counts)
          l.yielded;
      few : l.counts.performed + l.counts.refused + length (into_iter_items l.turn-iterator)
          ≤ l.initial.counts.performed + l.initial.counts.refused + length l.fn.turns.items;
      room : vec_len l.stored + arrivals (into_iter_items l.turn-iterator)
          ≤ vec_len l.initial.stored + arrivals l.fn.turns.items;
      capacity : vec_capacity l.stored ≡ vec_capacity l.initial.stored;
    }
