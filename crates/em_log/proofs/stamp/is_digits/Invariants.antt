use Rattle.std.proofs.Common.{◌≡◌, length}
use Rattle.em_log.specs.Stamp.{is_digits}
use Rattle.em_log.proofs.stamp.is_digits.Given as goal

-- the rest decides
abbrev pub invariant-loop-rest : goal.invariant-loop-rest
invariant-loop-rest l = is_digits l.rest ≡ is_digits l.fn.text

abbrev pub decreases-loop-rest : goal.decreases-loop-rest
decreases-loop-rest l = length l.rest
