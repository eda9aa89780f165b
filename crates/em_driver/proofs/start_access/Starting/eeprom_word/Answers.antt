use Rattle.std.proofs.Common.{◌≡◌, ◌+◌, ◌*◌, ◌/◌, true, false, Some, refl, sym, arith}
use Rattle.em_step.specs.Access.{has}
use Rattle.em_driver.specs.Course.{done}
use Rattle.em_driver.specs.Start.{eeprom_word}
use Rattle.em_driver.specs.declared.outcome.Cause.TheVariants as cause
use Rattle.em_driver.proofs.course.CourseSteps.{ends_with, comes_on, comes_both, comes_as, comes_read}
use Rattle.em_driver.proofs.course.StartCourse.{write_as, chosen, not_chosen}
use Rattle.em_driver.proofs.start_access.Starting.eeprom_word.Goals as goal

pub returns-then-contains-clause-ok : goal.returns-then-contains-clause-ok
unfolding eeprom_word
returns-then-contains-clause-ok g c = λ next.
    let asked : 0x100 * c.from.result + c.bits.result ≡ 0x100 * c.args.address + 0x1 =
    rw (c.from.ensures, c.bits.ensures tt) refl in
    let value = c.read-value.result in
    let is_done : has value 0x10 ≡ true = sym (rw (c.from_bits_retain.ensures tt) at (c.if-contains.ensures tt)) in
    comes_both _ _ _ _ _ _ 1 1 2 (write_as _ _ _ c.write.ensures.performs asked _) refl
    (comes_as _ _ _ _ _ 1 1 (comes_read _ _ _ _ _ c.read-value.ensures.event) refl
    (chosen (has value 0x10) (next (value / 0x1_0000)) (done (Some cause.Broken)) is_done))

pub returns-else-contains-clause-err : goal.returns-else-contains-clause-err
unfolding eeprom_word
returns-else-contains-clause-err g c =
    let asked : 0x100 * c.from.result + c.bits.result ≡ 0x100 * c.args.address + 0x1 =
    rw (c.from.ensures, c.bits.ensures tt) refl in
    let value = c.read-value.result in
    let not_done : has value 0x10 ≡ false = sym (rw (c.from_bits_retain.ensures tt) at (c.if-contains.ensures tt)) in
    record {
      events = 2;
      counted = omega (arith, c.write.ensures.counted, c.read-value.ensures.counted);
      follows = λ next.
          comes_on _ _ _ _ _ 2 0 2 _
          (comes_both _ _ _ _ _ _ 1 1 2 (write_as _ _ _ c.write.ensures.performs asked _) refl
          (comes_as _ _ _ _ _ 1 1 (comes_read _ _ _ _ _ c.read-value.ensures.event) refl
          (not_chosen (has value 0x10) (next (value / 0x1_0000)) (done (Some cause.Broken)) not_done)))
          refl (ends_with _ (Some cause.Broken) (Some cause.Broken) refl);
    }
