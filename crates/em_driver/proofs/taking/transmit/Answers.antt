use Rattle.std.proofs.Common.{refl}
use Rattle.em_driver.proofs.course.TakenTurns.{engine_performed, engine_refused}
use Rattle.em_turn.specs.declared.turn.Turn.TheVariants.{TxStep}
use Rattle.em_driver.proofs.taking.transmit.Goals as goal

pub returns-in-Ok : goal.returns-in-Ok
returns-in-Ok g c =
    engine_performed (g.M.Acts.shows c.args.machine.now) (g.M.Acts.shows c.perform.new.self) TxStep c.in-Ok.field-0
    refl c.in-Ok.ensures.ok.does

pub returns-in-Err : goal.returns-in-Err
returns-in-Err g c =
    engine_refused (g.M.Acts.shows c.args.machine.now) (g.M.Acts.shows c.perform.new.self) TxStep c.in-Err.refusal
    c.not_performed.result c.not_performed.ensures c.in-Err.ensures.err
