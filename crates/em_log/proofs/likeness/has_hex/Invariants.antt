use Rattle.std.proofs.Common.{◌≡◌, length}
use Rattle.em_log.specs.Likeness.{has_hex}
use Rattle.em_log.proofs.likeness.has_hex.Given as goal

-- what is left says what the whole text says
abbrev pub invariant-loop-rest : goal.invariant-loop-rest
invariant-loop-rest l = has_hex l.fn.text ≡ has_hex l.rest

abbrev pub decreases-loop-rest : goal.decreases-loop-rest
decreases-loop-rest l = length l.rest
