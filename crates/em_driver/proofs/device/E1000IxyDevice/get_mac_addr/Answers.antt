use Rattle.std.proofs.Common.{refl}
use Rattle.em_driver.proofs.course.CourseSteps.{ends_with, reads_on}
use Rattle.em_driver.proofs.order.OtherCalls.{get_mac_addr_order}
use Rattle.em_driver.proofs.device.E1000IxyDevice.get_mac_addr.Goals as goal

pub returns-clause-course : goal.returns-clause-course
returns-clause-course g c =
    reads_on _ _ _ _ _ _ _ 1 _ c.read.ensures refl
    (reads_on _ _ _ _ _ _ _ 0 _ c.read-2.ensures refl
    (ends_with _ _ _ (rw (c.to_le_bytes-low.ensures, c.to_le_bytes-high.ensures) refl)))

pub returns-clause-order : goal.returns-clause-order
returns-clause-order g c = λ h. get_mac_addr_order _ _ h (returns-clause-course g c)
