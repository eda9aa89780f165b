use Rattle.std.proofs.Common.{◌≡◌, ◌++◌, length}
use Rattle.em_journal.proofs.records.move_records.Given as goal

-- those that were moved lie before those that are left
abbrev pub invariant-loop-record : goal.invariant-loop-record
invariant-loop-record l =
    (l.ring.items ++ l.records.items ≡ l.initial.records.items) × (l.ring.capacity ≡ l.initial.ring.capacity)

abbrev pub decreases-loop-record : goal.decreases-loop-record
decreases-loop-record l = length l.records.items
