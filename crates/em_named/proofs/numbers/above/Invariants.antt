use Rattle.std.proofs.Common.{◌≡◌, ◌+◌, ◌*◌, ◌<◌, ◌≤◌, ◌^◌, length, take, drop}
use Rattle.em_named.specs.Names.{names}
use Rattle.em_named.specs.Numbers.{above, end_of}
use Rattle.em_named.proofs.numbers.above.Given as goal

-- so many are above behind the lines that were gone over, and those are left that lie so deep behind the others
abbrev pub invariant-loop-end : goal.invariant-loop-end
invariant-loop-end l =
    record {
      within : l.end.line ≤ length l.did;
      events : l.end.events ≡ end_of l.end.line l.did;
      deep : l.depth + l.end.line * 2 ^ 32 < 2 ^ 64;
      few : l.count + l.end.events < 2 ^ 63;
      same : l.count + above l.event l.did (drop l.depth (names (take l.end.line l.did)))
          ≡ above l.event l.did (drop l.back (names (take l.fn.from.line l.did)));
    }

abbrev pub decreases-loop-end : goal.decreases-loop-end
decreases-loop-end l = l.end.line
