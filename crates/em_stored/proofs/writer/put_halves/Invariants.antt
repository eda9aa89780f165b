use Rattle.std.proofs.Common.{◌≡◌, ◌++◌, take}
use Rattle.em_stored.specs.Form.{words}
use Rattle.em_stored.proofs.writer.put_halves.Given as goal

-- the numbers so far
abbrev pub invariant-loop-value : goal.invariant-loop-value
invariant-loop-value l = l.out.items ≡ l.initial.out.items ++ words (take l.value-index l.values)
