use Rattle.std.proofs.Common.{arith}
use Rattle.em_latch.proofs.CountLaws.{pair_grown}
use Rattle.em_latch.proofs.latches.Latches.count_pair.Goals as goal

pub returns-clause-state : goal.returns-clause-state
returns-clause-state c =
    pair_grown _ _ _ _ _ c.requires.apart
    (record {
      low_fits = omega (arith, c.word.ensures);
      high_fits = omega (arith, c.word-2.ensures);
      fits = omega arith;
      step_is =
          omega (
            arith,
            c.min-step.ensures,
            c.word.ensures,
            c.word-2.ensures,
            c.from-low_word.ensures,
            c.from.ensures,
            c.from-2.ensures,
          );
      carry_is = omega (arith, c.word.ensures, c.from-low_word.ensures);
    })
    c.grow.ensures.state c.grow_if.ensures.state
