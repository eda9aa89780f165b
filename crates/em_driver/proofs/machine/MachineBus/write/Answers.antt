use Rattle.std.proofs.lemmas.Result.{IfErr-weaker, on_ok_weaker}
use Rattle.em_regs.specs.Table.{offset_of}
use Rattle.em_step.specs.Event.{writes}
use Rattle.em_step.specs.declared.event.Answer.TheVariants.{Done}
use Rattle.em_driver.proofs.course.WriteAnswers.{write_refused}
use Rattle.em_driver.proofs.course.QuietMachine.{quiet_access, quiet_refusal}
use Rattle.em_driver.proofs.machine.MachineBus.write.Goals as goal

pub returns-clause-ok : goal.returns-clause-ok
returns-clause-ok c =
    on_ok_weaker c.write_register.result
    (λ done.
    quiet_access c.args.self.now c.write_register.new.self (writes (offset_of c.args.reg) c.args.value) Done done.does)
    c.write_register.ensures.ok

pub returns-clause-err : goal.returns-clause-err
returns-clause-err c =
    IfErr-weaker c.write_register.result _ _
    (quiet_refusal c.args.self.now c.write_register.new.self (writes (offset_of c.args.reg) c.args.value))
    c.write_register.ensures.err

pub returns-clause-only : goal.returns-clause-only
returns-clause-only c =
    IfErr-weaker c.write_register.result _ _
    (λ refusal why. write_refused c.args.self.now.present c.args.reg c.args.value refusal c.requires why.0)
    c.write_register.ensures.err
