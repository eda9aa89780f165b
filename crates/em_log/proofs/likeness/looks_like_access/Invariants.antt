use Rattle.std.proofs.Common.{◌≡◌, length}
use Rattle.em_log.specs.Likeness.{looks_from, looks_like_access}
use Rattle.em_log.proofs.likeness.looks_like_access.Given as goal

-- what is left says what the whole line says
abbrev pub invariant-loop-rest : goal.invariant-loop-rest
invariant-loop-rest l = looks_like_access l.fn.line ≡ looks_from l.behind_letter l.rest

abbrev pub decreases-loop-rest : goal.decreases-loop-rest
decreases-loop-rest l = length l.rest
