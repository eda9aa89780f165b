use Rattle.std.proofs.Common.{refl, ap, sym}
use Rattle.em_line.specs.Request.{plain_call}
use Rattle.em_script.specs.Seat.{world_in}
use Rattle.em_script.specs.declared.seat.Seat.{Seat}
use Rattle.em_script.specs.declared.seat.Seat.TheVariants.{Driven}
use Rattle.em_script.proofs.SeatLemmas.{is_called}
use Rattle.em_script.proofs.calling.call_driver.Goals as goal

pub returns-clause-called : goal.returns-clause-called
returns-clause-called g c =
    let counts = rw (c.bus.ensures.value) at c.end_plan-all.ensures.counts in
    let left = rw (c.bus.ensures.value) at c.end_plan-all.ensures.turns in
    let count = rw (c.bus.ensures.value) at c.end_plan-all.ensures.events in
    let d = c.call_by-events.new.driver in
    let after : Seat _ = Driven (record d { bus = c.end_plan-all.new.turns }) in
    is_called (plain_call c.args.call) c.session.inside.seat after c.session.inside.planned _
    c.session.inside.events _ c.args.session.now
    c.in-Driven.driver.bus c.call_by-events.new.driver.bus _ (sym c.session.view_is) c.session.invariant
    (ap world_in (sym c.in-Driven.is)) c.call_by-events.ensures.course count counts
    (sym c.call_by-events.ensures.stands) left refl
