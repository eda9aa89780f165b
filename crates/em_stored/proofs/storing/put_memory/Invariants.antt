use Rattle.std.proofs.Common.{◌≡◌, ◌++◌, ◌-◌, ◌*◌, ◌/◌, drop}
use Rattle.em_stored.specs.Form.{pages_form}
use Rattle.em_stored.proofs.storing.put_memory.Given as goal

-- what is written, and the pages that are left, are all
abbrev pub invariant-loop-k : goal.invariant-loop-k
invariant-loop-k l =
    l.out.items ++ pages_form (l.size / 4096 - l.k) (drop (4096 * l.k) (drop l.base l.memory.octets))
    ≡ l.initial.out.items ++ pages_form (l.size / 4096) (drop l.base l.memory.octets)
