-- What the registers say of a ring once one of them is written.
use Rattle.std.proofs.Common.{◌≡◌, ◌≢◌, ℕ, ◌<◌, ◌∙◌, arith}
use Rattle.std.proofs.lemmas.Nat.{and_mask}
use Rattle.std.proofs.Math.Nat.{mod-eq_of_lt}
use Rattle.std.specs.Prelude.{bit_and, ◌+◌, ◌*◌, ◌/◌, ◌%◌, ◌^◌, Some, None, if◌then◌else◌}
use Rattle.em_regs.specs.declared.reg.Reg.{Reg}
use Rattle.em_regs.specs.declared.reg.Reg.TheVariants.{Ctrl, Vet, Rctl, Rdbal, Rdbah, Rdlen, Rdh, Rdt}
use Rattle.em_regs.specs.declared.reg.Reg.TheVariants.{Tctl, Tdbal, Tdbah, Tdlen, Tdh, Tdt}
use Rattle.em_regs.specs.RegFile.{put}
use Rattle.em_regs.specs.Setup.{rx_setup, tx_setup, value_of, has, buffer_size, few_of}
use Rattle.em_regs.specs.Storage.{Registers}
use Rattle.em_regs.specs.Table.{mask_of, offset_of}
use Rattle.em_regs.proofs.Entries.{at-insert_same, at-insert_other}

-- a register holds what was written, but for the bits that it does not keep
pub put_same : (m : Registers) (reg : Reg) (v : ℕ) → value_of (put m reg v) reg ≡ bit_and v (mask_of reg)
put_same m reg v = at-insert_same m (offset_of reg) (bit_and v (mask_of reg))

-- another register stays
pub put_other : (m : Registers) (written reg : Reg) (v : ℕ) → offset_of reg ≢ offset_of written →
    value_of (put m written v) reg ≡ value_of m reg
put_other m written reg v other =
    at-insert_other m (offset_of written) (bit_and v (mask_of written)) (offset_of reg) other

-- all 16 bits of an index are kept
index_kept : (v : ℕ) → v < 65_536 → bit_and v 0xFFFF ≡ v
index_kept v less = and_mask v 16 ∙ mod-eq_of_lt less

-- a receive ring whose other registers stay
same_rx_ring : (m n : Registers) → value_of n Rctl ≡ value_of m Rctl → value_of n Rdbah ≡ value_of m Rdbah →
    value_of n Rdbal ≡ value_of m Rdbal → value_of n Rdlen ≡ value_of m Rdlen →
    rx_setup n ≡ record (rx_setup m) { head = value_of n Rdh; tail = value_of n Rdt }
same_rx_ring m n rctl high low len = λ i. record {
  enabled = has (rctl i) 0x2;
  base = high i * 2 ^ 32 + low i;
  count = len i / 16;
  head = value_of n Rdh;
  tail = value_of n Rdt;
  buffer = buffer_size (rctl i);
  threshold = few_of (len i / 16) (rctl i);
}

-- a write of RDH moves the head of the receive ring, and changes nothing else of it
pub rx_setup-head : (m : Registers) (v : ℕ) → v < 65_536 → rx_setup (put m Rdh v) ≡ record (rx_setup m) { head = v }
rx_setup-head m v less =
    let n : Registers = put m Rdh v in
    let kept = λ (reg : Reg) (other : offset_of reg ≢ 0x02810). put_other m Rdh reg v other in
    let head : value_of n Rdh ≡ v = put_same m Rdh v ∙ index_kept v less in
    let tail : value_of n Rdt ≡ value_of m Rdt = kept Rdt (λ e. omega arith) in
    same_rx_ring m n (kept Rctl (λ e. omega arith)) (kept Rdbah (λ e. omega arith)) (kept Rdbal (λ e. omega arith))
    (kept Rdlen (λ e. omega arith))
    ∙ λ i. record (rx_setup m) { head = head i; tail = tail i }

-- and a write of RDT the tail
pub rx_setup-tail : (m : Registers) (v : ℕ) → v < 65_536 → rx_setup (put m Rdt v) ≡ record (rx_setup m) { tail = v }
rx_setup-tail m v less =
    let n : Registers = put m Rdt v in
    let kept = λ (reg : Reg) (other : offset_of reg ≢ 0x02818). put_other m Rdt reg v other in
    let head : value_of n Rdh ≡ value_of m Rdh = kept Rdh (λ e. omega arith) in
    let tail : value_of n Rdt ≡ v = put_same m Rdt v ∙ index_kept v less in
    same_rx_ring m n (kept Rctl (λ e. omega arith)) (kept Rdbah (λ e. omega arith)) (kept Rdbal (λ e. omega arith))
    (kept Rdlen (λ e. omega arith))
    ∙ λ i. record (rx_setup m) { head = head i; tail = tail i }

-- a transmit ring whose other registers stay
same_tx_ring : (m n : Registers) → value_of n Tctl ≡ value_of m Tctl → value_of n Tdbah ≡ value_of m Tdbah →
    value_of n Tdbal ≡ value_of m Tdbal → value_of n Tdlen ≡ value_of m Tdlen → value_of n Ctrl ≡ value_of m Ctrl →
    value_of n Vet ≡ value_of m Vet →
    tx_setup n ≡ record (tx_setup m) { head = value_of n Tdh; tail = value_of n Tdt }
same_tx_ring m n tctl high low len ctrl vet = λ i. record {
  enabled = has (tctl i) 0x2;
  pad = has (tctl i) 0x8;
  base = high i * 2 ^ 32 + low i;
  count = len i / 16;
  head = value_of n Tdh;
  tail = value_of n Tdt;
  vlan = if has (ctrl i) 0x4000_0000 then Some (vet i % 2 ^ 16) else None;
}

-- a write of TDH moves the head of the transmit ring, and changes nothing else of it
pub tx_setup-head : (m : Registers) (v : ℕ) → v < 65_536 → tx_setup (put m Tdh v) ≡ record (tx_setup m) { head = v }
tx_setup-head m v less =
    let n : Registers = put m Tdh v in
    let kept = λ (reg : Reg) (other : offset_of reg ≢ 0x03810). put_other m Tdh reg v other in
    let head : value_of n Tdh ≡ v = put_same m Tdh v ∙ index_kept v less in
    let tail : value_of n Tdt ≡ value_of m Tdt = kept Tdt (λ e. omega arith) in
    same_tx_ring m n (kept Tctl (λ e. omega arith)) (kept Tdbah (λ e. omega arith)) (kept Tdbal (λ e. omega arith))
    (kept Tdlen (λ e. omega arith)) (kept Ctrl (λ e. omega arith)) (kept Vet (λ e. omega arith))
    ∙ λ i. record (tx_setup m) { head = head i; tail = tail i }

-- and a write of TDT the tail
pub tx_setup-tail : (m : Registers) (v : ℕ) → v < 65_536 → tx_setup (put m Tdt v) ≡ record (tx_setup m) { tail = v }
tx_setup-tail m v less =
    let n : Registers = put m Tdt v in
    let kept = λ (reg : Reg) (other : offset_of reg ≢ 0x03818). put_other m Tdt reg v other in
    let head : value_of n Tdh ≡ value_of m Tdh = kept Tdh (λ e. omega arith) in
    let tail : value_of n Tdt ≡ v = put_same m Tdt v ∙ index_kept v less in
    same_tx_ring m n (kept Tctl (λ e. omega arith)) (kept Tdbah (λ e. omega arith)) (kept Tdbal (λ e. omega arith))
    (kept Tdlen (λ e. omega arith)) (kept Ctrl (λ e. omega arith)) (kept Vet (λ e. omega arith))
    ∙ λ i. record (tx_setup m) { head = head i; tail = tail i }
