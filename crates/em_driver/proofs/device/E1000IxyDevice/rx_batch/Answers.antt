use Rattle.std.proofs.Common.{arith, ◌≡◌, ◌∙◌, refl, ℕ, ◌+◌, ◌-◌, ◌<◌, ◌≤◌, suc}
use Rattle.em_driver.proofs.course.RxBatchCourse.{other_queue, no_packets, broken_tail, opened, goes_on}
use Rattle.em_driver.proofs.course.RxBatchCourse.{goes_to_the_end}
use Rattle.em_driver.proofs.course.RxBatchCourse.{goes_no_further, goes_and_stops, following_below}
use Rattle.em_driver.proofs.order.RxBatchOrder.{rx_batch_order}
use Rattle.em_driver.proofs.device.E1000IxyDevice.rx_batch.Goals as goal
use Rattle.em_driver.proofs.device.E1000IxyDevice.rx_batch.Goals.{else-loop-i-test, then-loop-i-test+in-Ok-false}

one_less : (m i : ℕ) → i < m → m - i ≡ suc (m - (i + 1))
one_less m i h = omega arith

none_left : (m i : ℕ) → m ≤ i → m - i ≡ 0
none_left m i h = omega arith

minus_zero : (m n : ℕ) → m ≡ n → m - 0 ≡ n
minus_zero m n e = omega (arith, e)

pub returns-then-queue-ne0-clause-course : goal.returns-then-queue-ne0-clause-course
returns-then-queue-ne0-clause-course g c = other_queue c.args.self.now.layout _ _ _ _ c.if-queue-ne0.true

pub returns-then-queue-ne0-clause-order : goal.returns-then-queue-ne0-clause-order
returns-then-queue-ne0-clause-order g c = λ h. rx_batch_order _ _ _ _ _ _ _ _ h (returns-then-queue-ne0-clause-course g c)

pub returns-then-n-eq0-clause-course : goal.returns-then-n-eq0-clause-course
returns-then-n-eq0-clause-course g c =
    no_packets c.args.self.now.layout _ _ _ _ c.if-queue-ne0.false c.if-n-eq0.true

pub returns-then-n-eq0-clause-order : goal.returns-then-n-eq0-clause-order
returns-then-n-eq0-clause-order g c = λ h. rx_batch_order _ _ _ _ _ _ _ _ h (returns-then-n-eq0-clause-course g c)

pub returns-then-tail-ring-clause-course : goal.returns-then-tail-ring-clause-course
returns-then-tail-ring-clause-course g c =
    broken_tail c.args.self.now.layout _ c.if-queue-ne0.false c.if-n-eq0.false c.if-tail-ring.true
    c.stop_after.ensures c.read-tail.ensures

pub returns-then-tail-ring-clause-order : goal.returns-then-tail-ring-clause-order
returns-then-tail-ring-clause-order g c = λ h. rx_batch_order _ _ _ _ _ _ _ _ h (returns-then-tail-ring-clause-course g c)

pub loop-i-init : goal.loop-i-init
loop-i-init g c = record {
  layout = refl;
  few = omega arith;
  within = following_below c.following-index.ensures.following c.if-tail-ring.false;
  going = opened c.args.self.now.layout _ _ _ _ _ _ _ _ c.if-queue-ne0.false c.if-n-eq0.false c.if-tail-ring.false
      (minus_zero _ _ c.min-i-end.ensures) c.following-index.ensures.following c.read-tail.ensures;
}

pub loop-i-preserved : goal.loop-i-preserved
loop-i-preserved g c =
    let v = c.loop-i.invariant in
    record {
      layout = c.receive_packet.ensures.layout ∙ v.layout;
      few = omega (arith, v.few);
      within = following_below c.following-next.ensures.following v.within;
      going = goes_on c.args.self.now.layout c.loop-i.self.layout _ _ _ _ _ _ _ _ _ _ _ _ _ v.layout (one_less _ _
          c.loop-i-test.true)
          c.following-next.ensures.following v.going (rw c.in-Ok-true.field-0-test at c.in-Ok-true.ensures.ok);
    }

pub returns-in-Err-clause-course : goal.returns-in-Err-clause-course
returns-in-Err-clause-course g c =
    let v = c.loop-i.invariant in
    goes_and_stops c.args.self.now.layout c.loop-i.self.layout _ _ _ _ _ _ _ _ _ _ _ _ _ _ v.layout
    (one_less _ _ c.loop-i-test.true) c.stop_after-in-Err.ensures v.going c.in-Err.ensures.err

pub returns-in-Err-clause-order : goal.returns-in-Err-clause-order
returns-in-Err-clause-order g c = λ h. rx_batch_order _ _ _ _ _ _ _ _ h (returns-in-Err-clause-course g c)

pub returns-clause-course : goal.returns-clause-course
returns-clause-course g c =
    let v = c.loop-i.invariant in
    elim c.loop-i-test.branch [
      | else-loop-i-test w ↦ rw (w.self-is, w.buffer-is)
          (goes_to_the_end c.args.self.now.layout _ _ _ _ _ _ _ _ _ (none_left _ _ w.loop-i-test.false) v.going)
      | then-loop-i-test+in-Ok-false w ↦ rw (w.self-is, w.buffer-is)
          (goes_no_further c.args.self.now.layout c.loop-i.self.layout _ _ _ _ _ _ _ _ _ _ _ _ v.layout
          (one_less _ _ w.loop-i-test.true) v.going (rw w.in-Ok-false.field-0-test at w.in-Ok-false.ensures.ok))
    ]

pub returns-clause-order : goal.returns-clause-order
returns-clause-order g c = λ h. rx_batch_order _ _ _ _ _ _ _ _ h (returns-clause-course g c)
