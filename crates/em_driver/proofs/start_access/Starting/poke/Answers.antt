use Rattle.std.proofs.Common.{Some, ap, arith}
use Rattle.em_driver.proofs.course.CourseSteps.{comes_poke, poke_stops}
use Rattle.em_driver.proofs.start_access.Starting.poke.Goals as goal

pub returns-in-Ok-clause-ok : goal.returns-in-Ok-clause-ok
returns-in-Ok-clause-ok g c = λ more. comes_poke _ _ _ _ _ _ c.in-Ok.ensures.ok

pub returns-in-Err-clause-err : goal.returns-in-Err-clause-err
returns-in-Err-clause-err g c = record {
  events = 0;
  counted = omega arith;
  follows = λ more. poke_stops _ _ _ _ _ _ c.in-Err.refusal c.in-Err.ensures.err (ap Some c.cause_of.ensures);
}
