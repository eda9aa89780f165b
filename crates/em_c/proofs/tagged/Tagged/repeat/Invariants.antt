use Rattle.em_step.specs.Event.{plain}
use Rattle.em_c.specs.Run.{Repeats}
use Rattle.em_c.proofs.tagged.Tagged.repeat.Given as goal

abbrev pub invariant-loop-done : goal.invariant-loop-done
invariant-loop-done l = record { repeats : Repeats l.done (plain l.event) l.initial.self l.self }
