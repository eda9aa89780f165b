use Rattle.em_driver.proofs.course.CourseSteps.{comes_write}
use Rattle.em_driver.proofs.start_access.Starting.write.Goals as goal

pub returns-clause-performs : goal.returns-clause-performs
returns-clause-performs g c = λ more. comes_write _ _ _ _ _ c.set.ensures.event
