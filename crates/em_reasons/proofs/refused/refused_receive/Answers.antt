use Rattle.std.proofs.Common.{◌∙◌, ap}
use Rattle.em_regs.specs.Setup.{rx_setup}
use Rattle.em_rx.specs.Descriptor.{RxDescriptor}
use Rattle.em_reasons.proofs.RefusalLemmas.{octets_in, place_in, receive_inside, receive_outside}
use Rattle.em_reasons.proofs.refused.refused_receive.Goals as goal

pub returns-in-None : goal.returns-in-None
returns-in-None c =
    let s = c.args.machine.now.present in
    receive_outside c.ring_rx-setup.result (rx_setup s.registers) s.base s.memory s.fifo c.descriptor_at-at.result
    c.bounds_of-memory.result c.ring_rx-setup.ensures
    (octets_in s.base s.memory c.ring_rx-setup.result.head c.in-None.ensures c.ring-ring.ensures)
    (place_in c.ring_rx-setup.result.head c.descriptor_at-at.ensures c.ring-ring.ensures)
    c.bounds_of-memory.ensures

pub returns-in-Some : goal.returns-in-Some
returns-in-Some c =
    let s = c.args.machine.now.present in
    receive_inside c.ring_rx-setup.result (rx_setup s.registers) s.base s.memory c.in-Some.octets
    s.fifo c.descriptor_at-at.result c.address.result c.first_len.result c.bounds_of-memory.result c.ring_rx-setup.ensures
    (octets_in s.base s.memory c.ring_rx-setup.result.head c.in-Some.ensures c.ring-ring.ensures)
    (place_in c.ring_rx-setup.result.head c.descriptor_at-at.ensures c.ring-ring.ensures)
    (c.address.ensures ∙ ap (λ (d : RxDescriptor). d.address) c.read.ensures) c.first_len.ensures
    c.bounds_of-memory.ensures
