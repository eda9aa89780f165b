use Rattle.std.proofs.Common.{◌≡◌, ◌+◌, ◌*◌, slice_index, refl}
use Rattle.em_driver.specs.Start.{receive_address}
use Rattle.em_driver.proofs.course.CourseSteps.{comes_both}
use Rattle.em_driver.proofs.course.StartCourse.{write_as}
use Rattle.em_driver.proofs.start_access.Starting.receive_address.Goals as goal

pub returns-clause-performs : goal.returns-clause-performs
unfolding receive_address
returns-clause-performs g c = λ more.
    let words = c.args.eeprom.now in
    let low : c.from.result + 0x1_0000 * c.from-2.result ≡ slice_index words 0 + 0x1_0000 * slice_index words 1 =
    rw (c.from.ensures, c.word.ensures.word, c.from-2.ensures, c.word-2.ensures.word) refl in
    let high : c.from-3.result + c.bits.result ≡ slice_index words 2 + 0x8000_0000 =
    rw (c.from-3.ensures, c.word-3.ensures.word, c.bits.ensures tt) refl in
    comes_both _ _ _ _ _ _ 1 1 2 (write_as _ _ _ c.write.ensures.performs low _) refl
    (write_as _ _ _ c.write-2.ensures.performs high more)
