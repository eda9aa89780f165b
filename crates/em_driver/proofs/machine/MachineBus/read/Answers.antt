use Rattle.em_regs.specs.Table.{offset_of}
use Rattle.em_step.specs.Event.{reads}
use Rattle.em_step.specs.declared.event.Answer.TheVariants.{Value}
use Rattle.em_driver.proofs.course.QuietMachine.{quiet_access}
use Rattle.em_driver.proofs.machine.MachineBus.read.Goals as goal

pub returns : goal.returns
returns c =
    quiet_access c.args.self.now c.read_register.new.self (reads (offset_of c.args.reg)) (Value c.read_register.result)
    c.read_register.ensures.does
