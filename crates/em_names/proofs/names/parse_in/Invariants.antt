use Rattle.std.proofs.Common.{◌*◌}
use Rattle.em_names.proofs.NameLaws.{NoneNamedBelow}
use Rattle.em_names.proofs.names.parse_in.Given as goal

-- no name so far
abbrev pub invariant-loop-index : goal.invariant-loop-index
invariant-loop-index l = NoneNamedBelow l.profile l.word (4 * l.index)
