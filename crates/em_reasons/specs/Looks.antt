-- What a test looked at, reason by reason.
use Rattle.std.specs.Prelude.{◌+◌, ◌^◌, List, [], ◌∷◌}
use Rattle.em_regs.specs.declared.reg.Reg.TheVariants.{Ctrl, Status, Vet, Rctl, Tctl, Mta, Vfta}
use Rattle.em_regs.specs.declared.reg.Reg.TheVariants.{Rdbal, Rdbah, Rdlen, Rdh, Rdt, Tdbal, Tdbah, Tdlen, Tdh, Tdt}
use Rattle.em_reasons.specs.declared.look.Look.{Look}
use Rattle.em_reasons.specs.declared.look.Look.TheVariants.{Bits, Entries, Frames, Octets}
use Rattle.em_reasons.specs.declared.rx_idle.RxIdle.{RxIdle}
use Rattle.em_reasons.specs.declared.rx_idle.RxIdle.TheVariants as rx_idle
use Rattle.em_reasons.specs.declared.tx_idle.TxIdle.{TxIdle}
use Rattle.em_reasons.specs.declared.tx_idle.TxIdle.TheVariants as tx_idle
use Rattle.em_reasons.specs.declared.dropped.Dropped.{Dropped}
use Rattle.em_reasons.specs.declared.dropped.Dropped.TheVariants as dropped
use Rattle.em_reasons.specs.declared.refused.Refused.{Refused}
use Rattle.em_reasons.specs.declared.refused.Refused.TheVariants as refused
use Rattle.em_reasons.specs.Bits.{bit_of, word_of}

-- of the receive ring: EN is bit 1 of RCTL, and the registers keep these bits
abbrev pub rx_idle_looks : RxIdle → List Look
rx_idle_looks rx_idle.Disabled = Bits Rctl (2 ^ 1) ∷ []
rx_idle_looks rx_idle.NoRing = Bits Rdlen 0x000F_FF80 ∷ []
rx_idle_looks (rx_idle.HeadPast head count) = Bits Rdh 0xFFFF ∷ Bits Rdlen 0x000F_FF80 ∷ []
rx_idle_looks (rx_idle.TailPast tail count) = Bits Rdt 0xFFFF ∷ Bits Rdlen 0x000F_FF80 ∷ []
rx_idle_looks (rx_idle.Empty at) = Bits Rdh 0xFFFF ∷ Bits Rdt 0xFFFF ∷ []
rx_idle_looks rx_idle.NoFrame = Frames ∷ []

-- of the transmit ring: EN is bit 1 of TCTL; of the link: LU is bit 1 of STATUS, and LBM is bits 7:6 of RCTL
abbrev pub tx_idle_looks : TxIdle → List Look
tx_idle_looks tx_idle.Disabled = Bits Tctl (2 ^ 1) ∷ []
tx_idle_looks tx_idle.NoRing = Bits Tdlen 0x000F_FF80 ∷ []
tx_idle_looks (tx_idle.HeadPast head count) = Bits Tdh 0xFFFF ∷ Bits Tdlen 0x000F_FF80 ∷ []
tx_idle_looks (tx_idle.TailPast tail count) = Bits Tdt 0xFFFF ∷ Bits Tdlen 0x000F_FF80 ∷ []
tx_idle_looks (tx_idle.Empty at) = Bits Tdh 0xFFFF ∷ Bits Tdt 0xFFFF ∷ []
tx_idle_looks tx_idle.LinkDown = Bits Status (2 ^ 1) ∷ Bits Rctl 0xC0 ∷ []

-- of a frame: LU is bit 1 of STATUS; of RCTL, SBP is bit 2, UPE 3, MPE 4, LPE 5, MO 13:12, BAM 15, VFE 18, CFIEN 19, CFI
-- 20, DPF 22, PMCF 23; the bit of a hash in the multicast table, and of an identifier in the VLAN filter table; VME, bit 30 of CTRL, and VET say how many
-- octets are stored
abbrev pub dropped_looks : Dropped → List Look
dropped_looks dropped.Down = Bits Status (2 ^ 1) ∷ []
dropped_looks dropped.Disabled = Bits Rctl (2 ^ 1) ∷ []
dropped_looks (dropped.Unicast to) = Bits Rctl (2 ^ 3) ∷ Entries ∷ []
dropped_looks (dropped.Multicast to hash) =
    Bits Rctl (2 ^ 4 + 0x3000) ∷ Bits (Mta (word_of hash)) (2 ^ bit_of hash) ∷ Entries ∷ []
dropped_looks (dropped.Broadcast hash) =
    Bits Rctl (2 ^ 4 + 0x3000 + 2 ^ 15) ∷ Bits (Mta (word_of hash)) (2 ^ bit_of hash) ∷ Entries ∷ []
dropped_looks (dropped.Control to hash) =
    Bits Rctl (2 ^ 3 + 2 ^ 4 + 0x3000 + 2 ^ 15 + 2 ^ 23) ∷ Bits (Mta (word_of hash)) (2 ^ bit_of hash) ∷ Entries ∷ []
dropped_looks (dropped.Undersize octets) = []
dropped_looks (dropped.Oversize octets most) = Bits Rctl (2 ^ 5) ∷ []
dropped_looks (dropped.Overlong octets most) = Bits Rctl (2 ^ 2 + 2 ^ 5) ∷ []
dropped_looks (dropped.Vlan identifier) =
    Bits Rctl (2 ^ 18) ∷ Bits Vet 0xFFFF ∷ Bits (Vfta (word_of identifier)) (2 ^ bit_of identifier) ∷ []
dropped_looks (dropped.Cfi cfi) = Bits Rctl (2 ^ 19 + 2 ^ 20) ∷ Bits Vet 0xFFFF ∷ []
dropped_looks dropped.Pause = Bits Rctl (2 ^ 22) ∷ []
dropped_looks (dropped.Missed octets frames) = Frames ∷ Bits Ctrl (2 ^ 30) ∷ Bits Vet 0xFFFF ∷ []

-- where the descriptor at a ring's head lies
abbrev pub rx_place : List Look
rx_place = Bits Rdbal 0xFFFF_FFF0 ∷ Bits Rdbah 0xFFFF_FFFF ∷ Bits Rdh 0xFFFF ∷ []

abbrev pub tx_place : List Look
tx_place = Bits Tdbal 0xFFFF_FFF0 ∷ Bits Tdbah 0xFFFF_FFFF ∷ Bits Tdh 0xFFFF ∷ []

-- of an event that was refused: where the ring's descriptor lies; the address of its buffer (octets 0 to 7), its length
-- (8 and 9), CMD (11); BSIZE (bits 17:16) and BSEX (25) of RCTL
abbrev pub refused_looks : Refused → List Look
refused_looks (refused.NoRegister offset) = []
refused_looks (refused.Range at octets memory) = []
refused_looks (refused.WriteLength octets) = []
refused_looks (refused.FrameLength octets) = []
refused_looks (refused.RxDescriptor index at memory) = rx_place
refused_looks (refused.RxBuffer index at buffer size frame memory) =
    Octets at 0 8 ∷ Bits Rctl (0x0003_0000 + 2 ^ 25) ∷ Frames ∷ rx_place
refused_looks (refused.TxDescriptor index at memory) = tx_place
refused_looks (refused.Extended index at) = Octets at 11 1 ∷ tx_place
refused_looks (refused.TooLong index at octets) = Octets at 8 2 ∷ tx_place
refused_looks (refused.Overlong index at octets) = Octets at 0 10 ∷ tx_place
refused_looks (refused.TxBuffer index at buffer octets memory) = Octets at 0 10 ∷ tx_place
refused_looks refused.Memory = []

-- what the tests before it look at besides: CMD (11), by which DEXT refuses first
abbrev pub looks_before : Refused → List Look
looks_before (refused.TooLong index at octets) = Octets at 11 1 ∷ []
looks_before (refused.Overlong index at octets) = Octets at 11 1 ∷ []
looks_before (refused.TxBuffer index at buffer octets memory) = Octets at 11 1 ∷ []
looks_before _ = []
