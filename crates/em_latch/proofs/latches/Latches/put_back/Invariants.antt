use Rattle.std.proofs.Common.{◌≡◌, length}
use Rattle.em_latch.specs.Latches.{undo}
use Rattle.em_latch.proofs.latches.Latches.put_back.Given as goal

abbrev pub invariant-loop-place : goal.invariant-loop-place
invariant-loop-place l = undo l.self l.left ≡ undo l.initial.self l.fn.taken

abbrev pub decreases-loop-place : goal.decreases-loop-place
decreases-loop-place l = length l.left
