use Rattle.std.proofs.Common.{arith, ◌≡◌, ◌≢◌, ◌∙◌, refl, length, ℕ, ◌+◌, ◌-◌, ◌<◌, ◌≤◌, suc}
use Rattle.em_driver.proofs.course.TxBatchCourse.{other_queue, no_packets, broken_index, opened, goes_on}
use Rattle.em_driver.proofs.course.TxBatchCourse.{goes_to_the_end}
use Rattle.em_driver.proofs.course.TxBatchCourse.{goes_no_further, goes_and_stops}
use Rattle.em_driver.proofs.course.RxBatchCourse.{following_below}
use Rattle.em_driver.proofs.order.TxBatchOrder.{tx_batch_order}
use Rattle.em_driver.proofs.device.E1000IxyDevice.tx_batch.Goals as goal
use Rattle.em_driver.proofs.device.E1000IxyDevice.tx_batch.Goals.{else-loop-i-test, then-loop-i-test+in-Ok-false}

one_less : (m i : ℕ) → i < m → m - i ≡ suc (m - (i + 1))
one_less m i h = omega arith

none_left : (m i : ℕ) → m ≤ i → m - i ≡ 0
none_left m i h = omega arith

minus_zero : (m n : ℕ) → m ≡ n → m - 0 ≡ n
minus_zero m n e = omega (arith, e)

pub returns-then-queue-ne0-clause-course : goal.returns-then-queue-ne0-clause-course
returns-then-queue-ne0-clause-course g c = other_queue c.args.self.now.layout _ _ _ c.if-queue-ne0.true

pub returns-then-queue-ne0-clause-order : goal.returns-then-queue-ne0-clause-order
returns-then-queue-ne0-clause-order g c = λ h. tx_batch_order _ _ _ _ _ _ _ h (returns-then-queue-ne0-clause-course g c)

pub returns-in_default-clause-course : goal.returns-in_default-clause-course
returns-in_default-clause-course g c =
    no_packets c.args.self.now.layout _ _ _ c.if-queue-ne0.false (omega (arith, c.in_default.ensures.item.3))

pub returns-in_default-clause-order : goal.returns-in_default-clause-order
returns-in_default-clause-order g c = λ h. tx_batch_order _ _ _ _ _ _ _ h (returns-in_default-clause-course g c)

pub returns-in_default-free_descriptors-clause-course : goal.returns-in_default-free_descriptors-clause-course
returns-in_default-free_descriptors-clause-course g c =
    let some : length c.args.buffer.now.items ≢ 0 = omega (arith, c.in-Some.ensures.item.3.0) in
    broken_index c.args.self.now.layout _ c.if-queue-ne0.false some
    c.in_default-free_descriptors.ensures.value c.halt_after.ensures c.read-tail.ensures c.read-head.ensures

pub returns-in_default-free_descriptors-clause-order : goal.returns-in_default-free_descriptors-clause-order
returns-in_default-free_descriptors-clause-order g c = λ h. tx_batch_order _ _ _ _ _ _ _ h (returns-in_default-free_descriptors-clause-course g c)

pub loop-i-init : goal.loop-i-init
loop-i-init g c =
    let some : length c.args.buffer.now.items ≢ 0 = omega (arith, c.in-Some.ensures.item.3.0) in
    record {
      layout = refl;
      few = omega arith;
      small = omega (arith, c.in-Some-free_descriptors.ensures.fits.0, c.args.self.now.placed.transmit.count.most);
      within = c.in-Some-free_descriptors.ensures.fits.1;
      going = opened c.args.self.now.layout _ _ _ _ _ _ _ _ c.if-queue-ne0.false some
          c.in-Some-free_descriptors.ensures.value.0 (minus_zero _ _ c.in-Some-free_descriptors.ensures.value.1)
          c.read-tail.ensures c.read-head.ensures;
    }

pub loop-i-preserved : goal.loop-i-preserved
loop-i-preserved g c =
    let v = c.loop-i.invariant in
    record {
      layout = c.transmit_front.ensures.layout ∙ v.layout;
      few = omega (arith, v.few);
      small = v.small;
      within = following_below c.following-next.ensures.following v.within;
      going = goes_on c.args.self.now.layout c.loop-i.self.layout _ _ _ _ _ _ _ _ _ _ _ _ v.layout
          (one_less _ _ c.loop-i-test.true) c.following-next.ensures.following v.going
          (rw c.in-Ok-true.field-0-test at c.in-Ok-true.ensures.ok);
    }

pub returns-in-Err-clause-course : goal.returns-in-Err-clause-course
returns-in-Err-clause-course g c =
    let v = c.loop-i.invariant in
    goes_and_stops c.args.self.now.layout c.loop-i.self.layout _ _ _ _ _ _ _ _ _ _ _ _ v.layout
    (one_less _ _ c.loop-i-test.true) v.going c.in-Err.ensures.err

pub returns-in-Err-clause-order : goal.returns-in-Err-clause-order
returns-in-Err-clause-order g c = λ h. tx_batch_order _ _ _ _ _ _ _ h (returns-in-Err-clause-course g c)

pub returns-clause-course : goal.returns-clause-course
returns-clause-course g c =
    let v = c.loop-i.invariant in
    elim c.loop-i-test.branch [
      | else-loop-i-test w ↦ rw (w.self-is, w.buffer-is)
          (goes_to_the_end c.args.self.now.layout _ _ _ _ _ _ _ _ (none_left _ _ w.loop-i-test.false) v.going)
      | then-loop-i-test+in-Ok-false w ↦ rw (w.self-is, w.buffer-is)
          (goes_no_further c.args.self.now.layout c.loop-i.self.layout _ _ _ _ _ _ _ _ _ _ _ v.layout
          (one_less _ _ w.loop-i-test.true) v.going (rw w.in-Ok-false.field-0-test at w.in-Ok-false.ensures.ok))
    ]

pub returns-clause-order : goal.returns-clause-order
returns-clause-order g c = λ h. tx_batch_order _ _ _ _ _ _ _ h (returns-clause-course g c)
