use Rattle.std.proofs.Common.{sym, subst}
use Rattle.em_step.specs.Event.{pokes}
use Rattle.em_step.specs.declared.event.Answer.TheVariants.{Done}
use Rattle.em_turn.specs.Planned.{planned}
use Rattle.em_driver.specs.Taking.{world_with}
use Rattle.em_driver.specs.World.{World, Passes}
use Rattle.em_driver.proofs.course.FirstList.{planning, passed_access}
use Rattle.em_driver.proofs.course.QuietMachine.{quiet_poke}
use Rattle.em_driver.proofs.turns.TurnsBus.poke.Goals as goal

pub returns-clause-ok : goal.returns-clause-ok
returns-clause-ok g c =
    let i = c.self.inside in
    let taken = world_with (g.M.Acts.shows i.machine) i.stored.items i.counts in
    let here = planning (planned i.plan.items) i.starved taken in
    passed_access c.args.self.now here (g.M.Acts.shows c.perform.new.self) (pokes c.args.addr c.args.octets.now) Done
    (subst (λ (w : World). Passes c.args.self.now w) (sym c.self.view_is) c.pass.ensures)
    (quiet_poke (g.M.Acts.shows i.machine) (g.M.Acts.shows c.perform.new.self) c.args.addr c.args.octets.now
    c.in_ok-perform.field-0 c.in_ok-perform.ensures.ok.does)
