use Rattle.std.proofs.Common.{sym, ◌∙◌}
use Rattle.em_driver.specs.Layout.{descriptor}
use Rattle.em_driver.proofs.course.RxBatchCourse.{ring_ends, none_there, not_whole, left_there, took_there}
use Rattle.em_driver.proofs.course.Sides.{at_side}
use Rattle.em_driver.proofs.driver.E1000.receive_packet.Goals as goal

pub returns-in_default-clause-err : goal.returns-in_default-clause-err
returns-in_default-clause-err g c =
    ring_ends c.args.self.now.layout _ _ (at_side descriptor c.args.index c.descriptor-address.ensures.value c.rx.ensures) c.in_default.ensures.err

pub returns-then-not-is_done-clause-ok : goal.returns-then-not-is_done-clause-ok
returns-then-not-is_done-clause-ok g c =
    none_there c.args.self.now.layout _ _ (at_side descriptor c.args.index c.descriptor-address.ensures.value c.rx.ensures) c.in-Ok.ensures.ok
    (sym c.is_done.ensures ∙ c.if-not-is_done.true)

pub returns-in_default-packet_length-clause-err : goal.returns-in_default-packet_length-clause-err
returns-in_default-packet_length-clause-err g c =
    not_whole c.args.self.now.layout _ _ (at_side descriptor c.args.index c.descriptor-address.ensures.value c.rx.ensures) c.in-Ok.ensures.ok
    (sym c.is_done.ensures ∙ c.if-not-is_done.false) c.in_default-packet_length.ensures

pub returns-in-Err-clause-err : goal.returns-in-Err-clause-err
returns-in-Err-clause-err g c =
    left_there c.args.self.now.layout _ _ _ _ _ (at_side descriptor c.args.index c.descriptor-address.ensures.value c.rx.ensures) c.in-Ok.ensures.ok
    (sym c.is_done.ensures ∙ c.if-not-is_done.false) c.in-Some.ensures.0 c.in-Some.ensures.1 c.in-Err.ensures.err

pub returns-in-Ok-take_packet-clause-ok : goal.returns-in-Ok-take_packet-clause-ok
returns-in-Ok-take_packet-clause-ok g c =
    took_there c.args.self.now.layout _ _ _ _ (at_side descriptor c.args.index c.descriptor-address.ensures.value c.rx.ensures) c.in-Ok.ensures.ok
    (sym c.is_done.ensures ∙ c.if-not-is_done.false) c.in-Some.ensures.0 c.in-Some.ensures.1
    c.in-Ok-take_packet.ensures.ok
