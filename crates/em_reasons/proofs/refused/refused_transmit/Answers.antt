use Rattle.em_regs.specs.Setup.{tx_setup}
use Rattle.em_reasons.proofs.RefusalLemmas.{octets_in, place_in, transmit_inside, transmit_outside}
use Rattle.em_reasons.proofs.refused.refused_transmit.Goals as goal

pub returns-in-None : goal.returns-in-None
returns-in-None c =
    let s = c.args.machine.now.present in
    transmit_outside c.args.refusal s.profile c.ring_tx-setup.result (tx_setup s.registers) s.base s.memory
    c.descriptor_at.result c.bounds_of.result c.ring_tx-setup.ensures
    (octets_in s.base s.memory c.ring_tx-setup.result.head c.in-None.ensures c.ring-ring.ensures)
    (place_in c.ring_tx-setup.result.head c.descriptor_at.ensures c.ring-ring.ensures)
    c.bounds_of.ensures

pub returns-in-Some : goal.returns-in-Some
returns-in-Some c =
    let s = c.args.machine.now.present in
    transmit_inside c.args.refusal s.profile c.ring_tx-setup.result (tx_setup s.registers) s.base s.memory c.in-Some.octets
    c.refused_descriptor.result c.ring_tx-setup.ensures
    (octets_in s.base s.memory c.ring_tx-setup.result.head c.in-Some.ensures c.ring-ring.ensures)
    c.refused_descriptor.ensures
