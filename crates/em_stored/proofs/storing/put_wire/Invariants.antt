use Rattle.std.proofs.Common.{◌≡◌, ◌++◌, take}
use Rattle.std.specs.List.{flat_map}
use Rattle.em_stored.specs.Form.{counted}
use Rattle.em_stored.proofs.storing.put_wire.Given as goal

-- the first frames are written
abbrev pub invariant-loop-k : goal.invariant-loop-k
invariant-loop-k l = l.out.items ≡ l.initial.out.items ++ flat_map counted (take l.k l.machine.present.wire)
