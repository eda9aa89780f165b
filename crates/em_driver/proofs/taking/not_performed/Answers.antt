use Rattle.em_driver.proofs.course.TakenTurns.{refused_as}
use Rattle.em_driver.proofs.taking.not_performed.Goals as goal

pub returns-in_default : goal.returns-in_default
returns-in_default c = refused_as c.args.refusal c.in_default.not-Memory
