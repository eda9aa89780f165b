use Rattle.std.proofs.Common.{◌-◌}
use Rattle.em_debugger.specs.Lost.{NoneLost}
use Rattle.em_debugger.proofs.lost.lost_in.Given as goal

-- none of those so far
abbrev pub invariant-loop-steps : goal.invariant-loop-steps
invariant-loop-steps l = NoneLost l.tape l.steps

abbrev pub decreases-loop-steps : goal.decreases-loop-steps
decreases-loop-steps l = l.events - l.steps
