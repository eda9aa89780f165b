use Rattle.std.proofs.Common.{sym, subst}
use Rattle.em_regs.specs.Table.{offset_of}
use Rattle.em_step.specs.Event.{writes}
use Rattle.em_step.specs.declared.event.Answer.TheVariants.{Done}
use Rattle.em_turn.specs.Planned.{planned}
use Rattle.em_driver.specs.Taking.{world_with}
use Rattle.em_driver.specs.World.{World, Passes}
use Rattle.em_driver.proofs.course.FirstList.{planning, passed_access}
use Rattle.std.proofs.lemmas.Result.{IfErr-weaker, on_ok_weaker}
use Rattle.em_driver.proofs.course.WriteAnswers.{write_refused}
use Rattle.em_driver.proofs.course.QuietMachine.{quiet_access}
use Rattle.em_driver.proofs.turns.TurnsBus.write.Goals as goal

pub returns-clause-ok : goal.returns-clause-ok
returns-clause-ok g c =
    let i = c.self.inside in
    let taken = world_with (g.M.Acts.shows i.machine) i.stored.items i.counts in
    let here = planning (planned i.plan.items) i.starved taken in
    on_ok_weaker c.write_register.result (λ done. passed_access c.args.self.now here
    (g.M.Acts.shows c.write_register.new.self) (writes (offset_of c.args.reg) c.args.value) Done
    (subst (λ (w : World). Passes c.args.self.now w) (sym c.self.view_is) c.pass.ensures)
    (quiet_access (g.M.Acts.shows i.machine) (g.M.Acts.shows c.write_register.new.self)
    (writes (offset_of c.args.reg) c.args.value) Done done.does)) c.write_register.ensures.ok

pub returns-clause-only : goal.returns-clause-only
returns-clause-only g c =
    IfErr-weaker c.write_register.result _ _
    (λ refusal why. write_refused (g.M.Acts.shows c.self.inside.machine).present c.args.reg c.args.value refusal
    c.requires why.0) c.write_register.ensures.err
