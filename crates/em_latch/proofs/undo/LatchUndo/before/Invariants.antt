use Rattle.std.proofs.Common.{◌≡◌, length}
use Rattle.std.specs.Prelude.{slice_index}
use Rattle.em_latch.specs.Storage.{offsets}
use Rattle.em_latch.specs.Latches.{before_at}
use Rattle.em_latch.proofs.undo.LatchUndo.before.Given as goal

-- what the growths that are left tell of the value
abbrev pub invariant-loop-growth : goal.invariant-loop-growth
invariant-loop-growth l =
    let o = slice_index offsets l.sought in before_at l.left o l.value ≡ before_at l.initial.left o l.now

abbrev pub decreases-loop-growth : goal.decreases-loop-growth
decreases-loop-growth l = length l.left
