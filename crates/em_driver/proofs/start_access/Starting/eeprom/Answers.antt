use Rattle.std.proofs.Common.{◌∙◌, ◌*◌, take, refl, arith, length-set}
use Rattle.std.proofs.lemmas.Result.{err_from_is_err_and}
use Rattle.em_driver.specs.Start.{summed, eeprom}
use Rattle.em_driver.proofs.course.CourseSteps.{comes_none}
use Rattle.em_driver.proofs.course.StartCourse.{words_more, words_stop, words_all, summed_right, summed_wrong}
use Rattle.em_driver.proofs.start_access.Starting.eeprom.Goals as goal

pub loop-address-init : goal.loop-address-init
unfolding eeprom
loop-address-init g c = record { whole = refl; counted = omega arith; layout = refl; comes = λ next. comes_none _ _ }

pub loop-address-preserved : goal.loop-address-preserved
loop-address-preserved g c =
    let v = c.loop-address.invariant in
    let a = c.loop-address.address in
    record {
      whole = simp length-set v.whole;
      counted = omega (arith, v.counted, c.in_ok-word.ensures.counted);
      layout = c.eeprom_word.ensures.layout ∙ v.layout;
      comes = λ next.
          words_more _ _ _ _ 64 a c.from.result (2 * a) _ c.loop-address.words (summed next) c.loop-address-test.true
          (omega (arith, v.whole)) c.from.ensures (omega arith) (v.comes next) c.in_ok-word.ensures.ok;
    }

pub returns-in_err-word-clause-err : goal.returns-in_err-word-clause-err
returns-in_err-word-clause-err g c =
    let v = c.loop-address.invariant in
    let a = c.loop-address.address in
    let p = err_from_is_err_and c.from_residual.result c.from_residual.ensures.1 in
    rw (p.1, p.2)
    (words_stop eeprom 64 a (2 * a) (take a c.loop-address.words) summed c.loop-address-test.true v.comes
    v.counted c.in_err-word.ensures.err)

pub returns-then-checksum_ok-clause-ok : goal.returns-then-checksum_ok-clause-ok
returns-then-checksum_ok-clause-ok g c = λ next.
    let v = c.loop-address.invariant in
    let a = c.loop-address.address in
    summed_right _ _ _ 128 _ next (c.checksum_ok.ensures.0 c.if-checksum_ok.true)
    (words_all _ _ _ 64 a (2 * a) 128 c.loop-address.words (summed next) c.loop-address-test.false
    (omega (arith, v.whole)) c.of_words-eeprom.ensures.words (v.comes next) (omega arith))

pub returns-else-checksum_ok-clause-err : goal.returns-else-checksum_ok-clause-err
returns-else-checksum_ok-clause-err g c =
    let v = c.loop-address.invariant in
    let a = c.loop-address.address in
    summed_wrong eeprom 128 c.of_words-eeprom.result
    (λ is. let yes = c.checksum_ok.ensures.1 is in let no = c.if-checksum_ok.false in absurd cc)
    (λ next.
    words_all _ _ _ 64 a (2 * a) 128 c.loop-address.words (summed next) c.loop-address-test.false
    (omega (arith, v.whole)) c.of_words-eeprom.ensures.words (v.comes next) (omega arith))
    (omega (arith, v.counted))
