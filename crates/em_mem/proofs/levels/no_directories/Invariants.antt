use Rattle.std.proofs.Common.{◌≡◌, replicate, None}
use Rattle.em_mem.proofs.levels.no_directories.Given as goal

abbrev pub invariant-loop : goal.invariant-loop
invariant-loop l = l.directories.items ≡ replicate l.counter None
