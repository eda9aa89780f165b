use Rattle.std.proofs.Common.{◌≡◌, ◌-◌, ℕ, length}
use Rattle.em_tape.specs.Texts.{texts}
use Rattle.em_debugger.specs.Told.{told_of}
use Rattle.em_debugger.proofs.told.Told.make_ready.Given as goal

-- no answer is another one
abbrev pub invariant-loop-self : goal.invariant-loop-self
invariant-loop-self l = (n : ℕ) → told_of n (texts l.self.answers.items) ≡ told_of n (texts l.fn.self.answers.items)

abbrev pub decreases-loop-self : goal.decreases-loop-self
decreases-loop-self l = l.number - length l.self.answers.items
