use Rattle.std.proofs.Common.{◌≡◌}
use Rattle.em_c.specs.Tagged.{backs}
use Rattle.em_c.proofs.tagged.Tagged.go_back.Given as goal

abbrev pub invariant-loop-done : goal.invariant-loop-done
invariant-loop-done l = record { back : l.self ≡ backs l.done l.initial.self }
