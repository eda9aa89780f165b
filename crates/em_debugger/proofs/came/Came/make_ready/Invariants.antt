use Rattle.std.proofs.Common.{◌-◌, length}
use Rattle.em_debugger.specs.Came.{Stays}
use Rattle.em_debugger.proofs.came.Came.make_ready.Given as goal

-- beside no line stands another
abbrev pub invariant-loop-self : goal.invariant-loop-self
invariant-loop-self l = Stays l.fn.self.outcomes.items l.self.outcomes.items

abbrev pub decreases-loop-self : goal.decreases-loop-self
decreases-loop-self l = l.number - length l.self.outcomes.items
