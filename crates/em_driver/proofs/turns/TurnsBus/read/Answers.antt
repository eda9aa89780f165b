use Rattle.std.proofs.Common.{sym, subst}
use Rattle.em_regs.specs.Table.{offset_of}
use Rattle.em_step.specs.Event.{reads}
use Rattle.em_step.specs.declared.event.Answer.TheVariants.{Value}
use Rattle.em_turn.specs.Planned.{planned}
use Rattle.em_driver.specs.Taking.{world_with}
use Rattle.em_driver.specs.World.{World, Passes}
use Rattle.em_driver.proofs.course.FirstList.{planning, passed_access}
use Rattle.em_driver.proofs.course.QuietMachine.{quiet_access}
use Rattle.em_driver.proofs.turns.TurnsBus.read.Goals as goal

pub returns : goal.returns
returns g c =
    let i = c.self.inside in
    let taken = world_with (g.M.Acts.shows i.machine) i.stored.items i.counts in
    let here = planning (planned i.plan.items) i.starved taken in
    passed_access c.args.self.now here (g.M.Acts.shows c.read_register.new.self) (reads (offset_of c.args.reg))
    (Value c.read_register.result) (subst (λ (w : World). Passes c.args.self.now w) (sym c.self.view_is) c.pass.ensures)
    (quiet_access (g.M.Acts.shows i.machine) (g.M.Acts.shows c.read_register.new.self) (reads (offset_of c.args.reg))
    (Value c.read_register.result) c.read_register.ensures.does)
