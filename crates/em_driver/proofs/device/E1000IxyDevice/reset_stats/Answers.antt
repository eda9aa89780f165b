use Rattle.std.proofs.Common.{refl}
use Rattle.em_driver.proofs.course.CourseSteps.{ends, reads_on}
use Rattle.em_driver.proofs.order.OtherCalls.{reset_stats_order}
use Rattle.em_driver.proofs.device.E1000IxyDevice.reset_stats.Goals as goal

pub returns-clause-course : goal.returns-clause-course
returns-clause-course g c =
    reads_on _ _ _ _ _ _ _ 5 _ c.read.ensures refl
    (reads_on _ _ _ _ _ _ _ 4 _ c.read-2.ensures refl
    (reads_on _ _ _ _ _ _ _ 3 _ c.read-3.ensures refl
    (reads_on _ _ _ _ _ _ _ 2 _ c.read-4.ensures refl
    (reads_on _ _ _ _ _ _ _ 1 _ c.read-5.ensures refl
    (reads_on _ _ _ _ _ _ _ 0 _ c.read-6.ensures refl (ends _ _))))))

pub returns-clause-order : goal.returns-clause-order
returns-clause-order g c = λ h. reset_stats_order _ h (returns-clause-course g c)
