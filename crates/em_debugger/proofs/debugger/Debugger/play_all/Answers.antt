use Rattle.std.proofs.Common.{Ok, Some, None, [], refl, ap}
use Rattle.em_debugger.proofs.PlayedLaws.{PlaysSo-more, PlaysAll-end, ahead_falls}
use Rattle.em_debugger.proofs.debugger.Debugger.play_all.Goals as goal

pub ahead-init : goal.ahead-init
ahead-init c = record { lines = []; leads = refl; counts = c.none-played.ensures }

pub ahead-preserved : goal.ahead-preserved
ahead-preserved c =
    PlaysSo-more c.args.self.now c.ahead.self c.perform_next.new.self c.ahead.played c.and-played.result
    c.in-Ok-Some.performed c.ahead.invariant (rw c.in-Ok-Some.field-0-is at c.in-Ok-Some.ensures.some)
    c.and-played.ensures

pub ahead-smaller : goal.ahead-smaller
ahead-smaller c =
    ahead_falls c.ahead.self c.perform_next.new.self c.in-Ok-Some.performed
    (rw c.in-Ok-Some.field-0-is at c.in-Ok-Some.ensures.some)

pub returns-in-Ok-None : goal.returns-in-Ok-None
returns-in-Ok-None c =
    let none = c.in-Ok-None.ensures.none (ap Ok c.in-Ok-None.field-0-is) in
    PlaysAll-end c.args.self.now c.ahead.self c.perform_next.new.self c.ahead.played None c.ahead.invariant
    (none.0, none.1)

pub returns-in-Err : goal.returns-in-Err
returns-in-Err c =
    PlaysAll-end c.args.self.now c.ahead.self c.perform_next.new.self c.ahead.played (Some c.in-Err.fault)
    c.ahead.invariant (c.in-Err.ensures.only, c.in-Err.ensures.err)
