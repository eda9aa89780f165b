use Rattle.std.proofs.Common.{◌++◌, take}
use Rattle.std.specs.Prelude.{codes}
use Rattle.std.specs.List.{flat_map}
use Rattle.std.specs.Io.KnownBytes.{Appends}
use Rattle.em_recording.specs.EventText.{register_text}
use Rattle.em_recording.proofs.event_text.write_other_registers.Given as goal

-- those so far
abbrev pub invariant-loop-step : goal.invariant-loop-step
invariant-loop-step g l =
    let contents = g.W.Write.contents in
    Appends (contents l.fn.writer) (contents l.writer)
    (flat_map (λ step. codes "," ++ register_text step) (take l.step-index l.steps))
