use Rattle.em_debugger.specs.Deeper.{IsAgainTo}
use Rattle.em_debugger.proofs.deeper.behind.Given as goal

-- so many lines did the same again
abbrev pub invariant-loop-done : goal.invariant-loop-done
invariant-loop-done l = IsAgainTo l.fn.settings l.tape l.done l.deep
