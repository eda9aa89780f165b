use Rattle.em_driver.proofs.course.CourseSteps.{comes_reset}
use Rattle.em_driver.proofs.course.StartCourse.{reset_refused}
use Rattle.em_driver.proofs.start_access.Starting.reset.Goals as goal

pub returns-in-Ok-clause-ok : goal.returns-in-Ok-clause-ok
returns-in-Ok-clause-ok g c = λ more. comes_reset _ _ (rw c.bits.ensures at c.in-Ok.ensures.ok)

pub returns-in-Err-clause-err : goal.returns-in-Err-clause-err
returns-in-Err-clause-err g c =
    reset_refused c.bits.result c.in-Err.field-0 c.in-Err.ensures.err (c.bits.ensures tt) c.in-Err.ensures.only.0
