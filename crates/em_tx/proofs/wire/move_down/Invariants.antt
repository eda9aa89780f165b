use Rattle.std.proofs.Common.{◌≡◌, ◌++◌, ◌-◌, ℕ, map, take, drop}
use Rattle.em_tx.proofs.wire.move_down.Given as goal

-- those before are moved, the others not yet
abbrev pub invariant-loop-end : goal.invariant-loop-end
invariant-loop-end l =
    l.end-items ≡ map (λ (e : ℕ). e - l.by) (take l.end-index l.fn.ends.items) ++ drop l.end-index l.fn.ends.items
