use Rattle.std.proofs.Common.{length}
use Rattle.em_debug.proofs.reduce.write_reduced.Given as goal

-- the script that is left grows shorter
abbrev pub decreases-loop-rest : goal.decreases-loop-rest
decreases-loop-rest g l = length l.rest
