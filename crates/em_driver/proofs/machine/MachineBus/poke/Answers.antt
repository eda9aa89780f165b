use Rattle.em_driver.proofs.course.QuietMachine.{quiet_poke}
use Rattle.em_driver.proofs.machine.MachineBus.poke.Goals as goal

pub returns-clause-ok : goal.returns-clause-ok
returns-clause-ok c =
    quiet_poke c.args.self.now c.perform.new.self c.args.addr c.args.octets.now c.in_ok-perform.field-0
    c.in_ok-perform.ensures.ok.does
