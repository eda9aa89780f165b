-- The ring that a register belongs to.
use Rattle.std.specs.Prelude.{if◌then◌else◌, Option, Some, None}
use Rattle.em_regs.specs.declared.reg.Reg.{Reg}
use Rattle.em_regs.specs.declared.reg.Reg.TheVariants as reg
use Rattle.em_regs.specs.Setup.{rx_setup, tx_setup}
use Rattle.em_step.specs.State.{State}
use Rattle.em_inspect.specs.declared.ring.SidedRing.{SidedRing}
use Rattle.em_inspect.specs.declared.ring.Side.{Side}
use Rattle.em_inspect.specs.declared.ring.Side.TheVariants.{Receive, Transmit}
use Rattle.em_inspect.specs.Ring.{rx_ring, tx_ring}

-- the ring whose tail the register is, as the registers set it up
abbrev pub ring_of_tail : State → Reg → Option SidedRing
ring_of_tail s reg.Rdt = Some (rx_ring s.profile (rx_setup s.registers))
ring_of_tail s reg.Tdt = Some (tx_ring s.profile (tx_setup s.registers))
ring_of_tail s _ = None

-- the ring that the register enables
abbrev pub ring_of_control : State → Reg → Option SidedRing
ring_of_control s reg.Rctl = Some (rx_ring s.profile (rx_setup s.registers))
ring_of_control s reg.Tctl = Some (tx_ring s.profile (tx_setup s.registers))
ring_of_control s _ = None

-- the ring whose head the register is
abbrev pub ring_of_head : State → Reg → Option SidedRing
ring_of_head s reg.Rdh = Some (rx_ring s.profile (rx_setup s.registers))
ring_of_head s reg.Tdh = Some (tx_ring s.profile (tx_setup s.registers))
ring_of_head s _ = None

-- a ring, if it is enabled
abbrev pub where_enabled : SidedRing → Option SidedRing
where_enabled r = if r.setup.enabled then Some r else None

-- the ring of whose tail a write of the register asks: of a tail always; of a length, and of what enables the ring, where it
-- is enabled then
abbrev pub ring_asked : State → Reg → Option SidedRing
ring_asked s reg.Rdlen = where_enabled (rx_ring s.profile (rx_setup s.registers))
ring_asked s reg.Rctl = where_enabled (rx_ring s.profile (rx_setup s.registers))
ring_asked s reg.Tdlen = where_enabled (tx_ring s.profile (tx_setup s.registers))
ring_asked s reg.Tctl = where_enabled (tx_ring s.profile (tx_setup s.registers))
ring_asked s reg = ring_of_tail s reg

-- the registers of a ring's tail and head, and the one that enables it
abbrev pub tail_of : Side → Reg
tail_of (Receive size) = reg.Rdt
tail_of Transmit = reg.Tdt

abbrev pub head_of : Side → Reg
head_of (Receive size) = reg.Rdh
head_of Transmit = reg.Tdh

abbrev pub control_of : Side → Reg
control_of (Receive size) = reg.Rctl
control_of Transmit = reg.Tctl

-- the register of a ring's length
abbrev pub length_of : Side → Reg
length_of (Receive size) = reg.Rdlen
length_of Transmit = reg.Tdlen
