use Rattle.std.proofs.Common.{ap, refl, sym, ◌∙◌}
use Rattle.em_driver.specs.Transmit.{halt_after}
use Rattle.em_driver.specs.Layout.{buffer, descriptor}
use Rattle.em_driver.proofs.course.TxBatchCourse.{bad_length, packet_refused, written, described, descriptor_refused}
use Rattle.em_driver.proofs.course.TxBatchCourse.{sent}
use Rattle.em_driver.proofs.course.Sides.{at_side}
use Rattle.em_driver.proofs.driver.E1000.transmit_packet.Goals as goal

pub returns-then-not-is_packet-clause-err : goal.returns-then-not-is_packet-clause-err
returns-then-not-is_packet-clause-err g c =
    bad_length c.args.self.now.layout _ _ _ (sym c.is_packet.ensures ∙ c.if-not-is_packet.true) c.halt_after.ensures

pub returns-in-Err-clause-err : goal.returns-in-Err-clause-err
returns-in-Err-clause-err g c =
    packet_refused c.args.self.now.layout _ (sym c.is_packet.ensures ∙ c.if-not-is_packet.false)
    (at_side buffer c.args.index c.buffer-address.ensures c.tx.ensures) c.in-Err.ensures.err
    (c.halt_after-in-Err.ensures ∙ ap (halt_after c.args.count 0) c.cause_of.ensures)

pub returns-in-Err-poke-clause-err : goal.returns-in-Err-poke-clause-err
returns-in-Err-poke-clause-err g c =
    let l = c.args.self.now.layout in
    descriptor_refused l _ (sym c.is_packet.ensures ∙ c.if-not-is_packet.false)
    (written l _ _ _ _ _ (at_side buffer c.args.index c.buffer-address.ensures c.tx.ensures) c.in_default.ensures.ok) (at_side descriptor c.args.index c.descriptor-place.ensures.value c.tx-2.ensures)
    (described l _ _ _ _ _ c.of_packet-descriptor.ensures (at_side buffer c.args.index c.buffer-address.ensures c.tx.ensures) refl) c.in-Err-poke.ensures.err
    (c.halt_after-in-Err-poke.ensures ∙ ap (halt_after c.args.count 1) c.cause_of-in-Err-poke.ensures)

pub returns-clause-ok : goal.returns-clause-ok
returns-clause-ok g c =
    let l = c.args.self.now.layout in
    sent l _ _ _ _ _ _ _ _ _ _ (sym c.is_packet.ensures ∙ c.if-not-is_packet.false)
    (written l _ _ _ _ _ (at_side buffer c.args.index c.buffer-address.ensures c.tx.ensures) c.in_default.ensures.ok) (at_side descriptor c.args.index c.descriptor-place.ensures.value c.tx-2.ensures)
    (described l _ _ _ _ _ c.of_packet-descriptor.ensures (at_side buffer c.args.index c.buffer-address.ensures c.tx.ensures) refl) c.in_default-poke.ensures.ok
    c.following-next.ensures.following c.set.ensures.event
