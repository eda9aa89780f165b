use Rattle.std.proofs.Common.{◌≡◌}
use Rattle.em_recording.proofs.effects.octets_of.Given as goal

-- the steps so far
abbrev pub invariant-loop-change : goal.invariant-loop-change
invariant-loop-change l =
    goal.iterator-loop-change.can_next l.change-iterator × goal.iterator-loop-change.is_finite l.change-iterator
    × (l.steps.items ≡ l.yielded)
