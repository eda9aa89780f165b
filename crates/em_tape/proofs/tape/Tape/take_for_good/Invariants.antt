use Rattle.std.proofs.Common.{◌≡◌, ◌-◌, ◌≤◌}
use Rattle.em_tape.specs.Moves.{TakesBack}
use Rattle.em_tape.proofs.tape.Tape.take_for_good.Given as goal

-- so many are taken back
abbrev pub invariant-loop-left : goal.invariant-loop-left
invariant-loop-left l =
    record {
      takes : TakesBack l.fn.self l.self (l.events - l.left);
      none : l.events ≡ 0 → l.self ≡ l.fn.self;
      within : l.left ≤ l.events;
    }

abbrev pub decreases-loop-left : goal.decreases-loop-left
decreases-loop-left l = l.left
