use Rattle.em_step.proofs.BeforeLaws.{memory_left}
use Rattle.em_step.proofs.before.Past.next_octet.Goals as goal

pub returns-clause-before : goal.returns-clause-before
returns-clause-before c =
    memory_left c.args.self.now c.args.addr c.next_told.result c.next_told.ensures
