use Rattle.std.proofs.Common.{◌≡◌, ◌++◌, map}
use Rattle.em_c.specs.Differences.{of_octets}
use Rattle.em_c.proofs.differences.push_octets.Given as goal

-- those so far are told
abbrev pub invariant-loop-change : goal.invariant-loop-change
invariant-loop-change l =
    goal.iterator-loop-change.can_next l.change-iterator ×
    goal.iterator-loop-change.is_finite l.change-iterator ×
    record { added : l.list.items ≡ l.fn.list.items ++ map of_octets l.yielded }
