use Rattle.std.proofs.Common.{ap, refl, ◌≡◌, ◌+◌, ◌++◌, arith, length, take, drop, vec_len}
use Rattle.std.proofs.lemmas.List.{take_at}
use Rattle.em_turn.specs.Planned.{lists}
use Rattle.em_driver.specs.Layout.{buffer, descriptor}
use Rattle.em_driver.proofs.course.RxBatchCourse.{no_room, not_seen, seen, not_cleared, taken, pushed}
use Rattle.em_driver.proofs.course.Sides.{at_side}
use Rattle.em_driver.proofs.driver.E1000.take_packet.Goals as goal

pub returns-in_default-clause-err : goal.returns-in_default-clause-err
returns-in_default-clause-err g c = no_room c.args.self.now.layout _ _ _ refl

pub returns-in_default-reserve-clause-err : goal.returns-in_default-reserve-clause-err
returns-in_default-reserve-clause-err g c =
    no_room c.args.self.now.layout _ _ _ (ap lists c.reserve.ensures.items)

pub returns-in_default-peek-clause-err : goal.returns-in_default-peek-clause-err
returns-in_default-peek-clause-err g c =
    let long : length c.as_mut_slice.result.now ≡ c.args.length
    = omega (arith, c.as_mut_slice.ensures.len, c.in-Ok.ensures.len) in
    not_seen c.args.self.now.layout _ (ap lists c.reserve.ensures.items) long
    (at_side buffer c.args.index c.buffer-address.ensures c.rx.ensures) c.in_default-peek.ensures.err

pub returns-in-Err-clause-err : goal.returns-in-Err-clause-err
returns-in-Err-clause-err g c =
    let long : length c.as_mut_slice.result.now ≡ c.args.length
    = omega (arith, c.as_mut_slice.ensures.len, c.in-Ok.ensures.len) in
    not_cleared c.args.self.now.layout _ (ap lists c.reserve.ensures.items)
    (seen c.args.self.now.layout _ long (at_side buffer c.args.index c.buffer-address.ensures c.rx.ensures) c.in-Ok-peek.ensures.ok)
    (ap (λ a. a + 12) (at_side descriptor c.args.index c.descriptor.ensures.value c.rx-2.ensures)) c.in-Err.ensures.err c.cause_of.ensures

pub returns-clause-ok : goal.returns-clause-ok
returns-clause-ok g c =
    let long : length c.as_mut_slice.result.now ≡ c.args.length
    = omega (arith, c.as_mut_slice.ensures.len, c.in-Ok.ensures.len) in
    let whole : take (vec_len c.in-Ok.packet) (c.peek.new.out ++ drop (length c.peek.new.out) c.in-Ok.packet.items)
    ≡ c.peek.new.out
    = take_at c.peek.new.out _ _ (omega (arith, c.peek.auto.out, c.as_mut_slice.ensures.len)) in
    taken c.args.self.now.layout _ _ _ _ _ _ _ _ _ _
    (pushed _ _ _ _ _ c.push_back_reserved.ensures.items c.reserve.ensures.items whole)
    (seen c.args.self.now.layout _ long (at_side buffer c.args.index c.buffer-address.ensures c.rx.ensures) c.in-Ok-peek.ensures.ok)
    (ap (λ a. a + 12) (at_side descriptor c.args.index c.descriptor.ensures.value c.rx-2.ensures)) c.in_default-poke.ensures.ok c.set.ensures.event
