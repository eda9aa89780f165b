use Rattle.em_driver.proofs.course.HappenedCalls.{call_happens, unplanned_fed}
use Rattle.em_driver.proofs.laws.a_call_happens.Goals as goal

pub returns-clause-happens : goal.returns-clause-happens
returns-clause-happens g c = λ says course w v events answer tells follows alone.
    call_happens says course w v events answer tells follows alone

pub returns-clause-unplanned : goal.returns-clause-unplanned
returns-clause-unplanned g c = λ course w v events answer follows none.
    unplanned_fed course w v events answer follows none
