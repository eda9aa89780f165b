use Rattle.std.proofs.Common.{◌≤◌, ◌-◌}
use Rattle.em_debugger.specs.Accesses.{NoneOf}
use Rattle.em_debugger.proofs.accesses.newest_in.Given as goal

-- none of those so far is one
abbrev pub invariant-loop-steps : goal.invariant-loop-steps
invariant-loop-steps l =
    record {
      within : l.back ≤ l.steps;
      none : NoneOf l.tape l.sort l.back l.steps;
    }

abbrev pub decreases-loop-steps : goal.decreases-loop-steps
decreases-loop-steps l = l.reach - l.steps
