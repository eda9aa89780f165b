use Rattle.std.proofs.Common.{◌≡◌, ◌+◌, refl}
use Rattle.std.proofs.lemmas.Result.{err_from_is_err_and}
use Rattle.em_driver.specs.Start.{transmit_ring}
use Rattle.em_driver.proofs.course.CourseSteps.{comes_both}
use Rattle.em_driver.proofs.course.StartCourse.{write_as}
use Rattle.em_driver.proofs.start_access.Starting.transmit_ring.Goals as goal

pub returns-in_err-descriptors-clause-err : goal.returns-in_err-descriptors-clause-err
unfolding transmit_ring
returns-in_err-descriptors-clause-err g c =
    let p = err_from_is_err_and c.from_residual.result c.from_residual.ensures.1 in
    let s = c.in_err-descriptors.ensures.err in
    rw (p.1, p.2) record { events = s.events; counted = s.counted; follows = λ more. s.follows _ }

pub returns-clause-ok : goal.returns-clause-ok
unfolding transmit_ring
returns-clause-ok g c = λ more.
    let enabled : c.bits.result + 0x100 + 0x4_0000 ≡ 0x0004_010A = rw (c.bits.ensures tt, c.union.ensures tt) refl in
    comes_both _ _ _ _ _ _ c.args.self.now.driver.layout.tx_count 7 _ (c.in_ok-descriptors.ensures.ok _) refl
    (comes_both _ _ _ _ _ _ 1 6 7 (write_as _ _ _ c.write.ensures.performs c.low.ensures _) refl
    (comes_both _ _ _ _ _ _ 1 5 6 (write_as _ _ _ c.write-2.ensures.performs c.high.ensures _) refl
    (comes_both _ _ _ _ _ _ 1 4 5 (c.write-3.ensures.performs _) refl
    (comes_both _ _ _ _ _ _ 1 3 4 (c.write-4.ensures.performs _) refl
    (comes_both _ _ _ _ _ _ 1 2 3 (c.write-5.ensures.performs _) refl
    (comes_both _ _ _ _ _ _ 1 1 2 (c.write-6.ensures.performs _) refl
    (write_as _ _ _ c.write-7.ensures.performs enabled more)))))))
