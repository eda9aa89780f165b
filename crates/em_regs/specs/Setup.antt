-- What the registers say of the two rings.
use Rattle.std.specs.Prelude.{
  Bool,
  ℕ,
  ◌+◌,
  ◌*◌,
  ◌/◌,
  ◌%◌,
  ◌^◌,
  ◌==◌,
  if◌then◌else◌,
  bit_and,
  [],
  ◌∷◌,
  Some,
  None,
  slice_index,
}
use Rattle.em_regs.specs.declared.reg.Reg.{Reg}
use Rattle.em_regs.specs.declared.reg.Reg.TheVariants.{
  Ctrl,
  Vet,
  Rctl,
  Rdbal,
  Rdbah,
  Rdlen,
  Rdh,
  Rdt,
  Tctl,
  Tdbal,
  Tdbah,
  Tdlen,
  Tdh,
  Tdt,
}
use Rattle.em_regs.specs.declared.setup.RxSetup.{RxSetup}
use Rattle.em_regs.specs.declared.setup.TxSetup.{TxSetup}
use Rattle.em_regs.specs.Table.{offset_of}
use Rattle.em_regs.specs.Storage.{Registers}
use Rattle.em_regs.specs.RegFile.{at}

-- what a register holds
abbrev pub value_of : Registers → Reg → ℕ
value_of m reg = at m (offset_of reg)

-- all bits of a mask are set
abbrev pub has : ℕ → ℕ → Bool
has value mask = bit_and value mask == mask

-- bit k of a number is 1
abbrev pub bit : ℕ → ℕ → Bool
bit n k = n / 2 ^ k % 2 == 1

-- two registers as one number
abbrev pub pair : Registers → Reg → Reg → ℕ
pair m high low = value_of m high * 2 ^ 32 + value_of m low

-- the size of a receive buffer by BSIZE (bits 17:16), with BSEX (bit 25) clear or set
abbrev pub buffer_size : ℕ → ℕ
buffer_size rctl =
    let bsize = rctl / 2 ^ 16 % 4 in
    if has rctl 0x0200_0000 then slice_index (2048 ∷ 16384 ∷ 8192 ∷ 4096 ∷ []) bsize
    else slice_index (2048 ∷ 1024 ∷ 512 ∷ 256 ∷ []) bsize

-- how many of n receive descriptors are few, by RDMTS (bits 9:8)
abbrev pub few_of : ℕ → ℕ → ℕ
few_of n rctl = slice_index (n / 2 ∷ n / 4 ∷ n / 8 ∷ n / 8 ∷ []) (rctl / 2 ^ 8 % 4)

-- the receive ring: EN is bit 1 of RCTL, and a descriptor has 16 octets
abbrev pub rx_setup : Registers → RxSetup
rx_setup m = record {
  enabled = has (value_of m Rctl) 0x2;
  base = pair m Rdbah Rdbal;
  count = value_of m Rdlen / 16;
  head = value_of m Rdh;
  tail = value_of m Rdt;
  buffer = buffer_size (value_of m Rctl);
  threshold = few_of (value_of m Rdlen / 16) (value_of m Rctl);
}

-- the transmit ring: EN is bit 1 of TCTL, PSP bit 3; VME, bit 30 of CTRL, lets VET count
abbrev pub tx_setup : Registers → TxSetup
tx_setup m = record {
  enabled = has (value_of m Tctl) 0x2;
  pad = has (value_of m Tctl) 0x8;
  base = pair m Tdbah Tdbal;
  count = value_of m Tdlen / 16;
  head = value_of m Tdh;
  tail = value_of m Tdt;
  vlan = if has (value_of m Ctrl) 0x4000_0000 then Some (value_of m Vet % 2 ^ 16) else None;
}
