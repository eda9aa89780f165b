use Rattle.std.proofs.Common.{◌∙◌, refl, ap, sym}
use Rattle.em_line.specs.Request.{starts}
use Rattle.em_script.specs.Seat.{world_in}
use Rattle.em_script.specs.declared.seat.Seat.{Seat}
use Rattle.em_script.specs.declared.seat.Seat.TheVariants.{Bare, Driven}
use Rattle.em_script.proofs.CallingLemmas.{started, not_started}
use Rattle.em_script.proofs.SeatLemmas.{is_called}
use Rattle.em_script.proofs.calling.start_driver.Goals as goal

pub returns-in-Ok : goal.returns-in-Ok
returns-in-Ok g c =
    let begins = c.into_turns-turns.ensures ∙ ap world_in c.replace.ensures.value in
    let follows = started _ _ c.in-Ok.events c.in-Ok.ensures.good c.in-Ok.ensures.ok in
    let counts = rw (c.replace-planned.ensures.value, c.bus.ensures.value) at c.end_plan-all.ensures.counts in
    let left = rw (c.bus.ensures.value) at c.end_plan-all.ensures.turns in
    let count = rw (c.bus.ensures.value) at c.end_plan-all.ensures.events in
    let d = c.in-Ok.driver in
    let after : Seat _ = Driven (record d { bus = c.end_plan-all.new.turns }) in
    rw (c.put.ensures) (is_called starts c.session.inside.seat after c.session.inside.planned
    c.replace-planned.new.dest c.session.inside.events _ c.args.session.now c.into_turns-turns.result
    c.in-Ok.driver.bus _ (sym c.session.view_is) c.session.invariant begins follows count counts refl left
    c.replace-planned.ensures.after)

pub returns-in-Err : goal.returns-in-Err
returns-in-Err g c =
    let begins = c.into_turns-turns.ensures ∙ ap world_in c.replace.ensures.value in
    let refused = c.in-Err.refused in
    let follows = not_started _ _ refused.events refused.cause c.in-Err.ensures.untouched c.in-Err.ensures.stopped in
    let counts = rw (c.replace-planned.ensures.value) at c.end_plan-all-in-Err.ensures.counts in
    rw (c.put-in-Err.ensures) (is_called starts c.session.inside.seat (Bare c.end_plan-all-in-Err.new.turns)
    c.session.inside.planned c.replace-planned.new.dest c.session.inside.events _ c.args.session.now
    c.into_turns-turns.result refused.bus _ (sym c.session.view_is) c.session.invariant begins follows
    c.end_plan-all-in-Err.ensures.events counts refl c.end_plan-all-in-Err.ensures.turns
    c.replace-planned.ensures.after)
