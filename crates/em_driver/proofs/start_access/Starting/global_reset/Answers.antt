use Rattle.std.proofs.Common.{◌≡◌, ◌+◌, refl, arith}
use Rattle.std.proofs.lemmas.Result.{err_from_is_err_and}
use Rattle.em_driver.specs.Start.{global_reset, until_reset, set_link_up}
use Rattle.em_driver.proofs.course.CourseSteps.{comes_on, comes_both}
use Rattle.em_driver.proofs.course.StartCourse.{write_as}
use Rattle.em_driver.proofs.start_access.Starting.global_reset.Goals as goal

pub returns-in_err-reset-clause-err : goal.returns-in_err-reset-clause-err
unfolding global_reset until_reset set_link_up
returns-in_err-reset-clause-err g c =
    let p = err_from_is_err_and c.from_residual.result c.from_residual.ensures.1 in
    let s = c.in_err-reset.ensures.err in
    rw (p.1, p.2) record {
      events = 1 + s.events;
      counted = omega (arith, s.counted, c.write.ensures.counted);
      follows = λ more.
          comes_on _ _ _ _ _ 1 s.events (1 + s.events) _ (c.write.ensures.performs _) refl (s.follows _);
    }

pub returns-clause-ok : goal.returns-clause-ok
unfolding global_reset until_reset set_link_up
returns-clause-ok g c = λ more.
    let linked : c.bits.result ≡ 0x0000_0041 = rw (c.bits.ensures tt, c.union.ensures tt) refl in
    comes_both _ _ _ _ _ _ 1 3 4 (c.write.ensures.performs _) refl
    (comes_both _ _ _ _ _ _ 1 2 3 (c.in_ok-reset.ensures.ok _) refl
    (comes_both _ _ _ _ _ _ 1 1 2 (c.write-2.ensures.performs _) refl
    (write_as _ _ _ c.write-3.ensures.performs linked more)))
