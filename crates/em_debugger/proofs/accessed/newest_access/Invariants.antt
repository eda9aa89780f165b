use Rattle.std.proofs.Common.{◌≤◌, ◌-◌}
use Rattle.em_debugger.specs.Accessed.{NoneAccesses}
use Rattle.em_debugger.proofs.accessed.newest_access.Given as goal

-- none of those so far is one
abbrev pub invariant-loop-steps : goal.invariant-loop-steps
invariant-loop-steps l =
    record {
      within : l.back ≤ l.steps;
      none : NoneAccesses l.tape l.watch l.back l.steps;
    }

abbrev pub decreases-loop-steps : goal.decreases-loop-steps
decreases-loop-steps l = l.reach - l.steps
