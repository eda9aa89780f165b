-- The registers that one side of the adapter goes by, and writes that leave them as they are.
use Rattle.std.proofs.Common.{◌≡◌, ◌≢◌, ℕ, ◌+◌, ◌*◌, ◌<◌, ◌≤◌, sym, ap, arith}
use Rattle.std.specs.Prelude.{◌==◌, bit_and}
use Rattle.std.specs.FinMap as map
use Rattle.em_regs.specs.declared.reg.Reg.{Reg}
use Rattle.em_regs.specs.declared.reg.Reg.TheVariants.{Ctrl, Rctl, Rdbal, Rdbah, Rdlen, Rdh, Rdt}
use Rattle.em_regs.specs.declared.reg.Reg.TheVariants.{Tctl, Tdbal, Tdbah, Tdlen, Tdh, Tdt}
use Rattle.em_regs.specs.RegFile as registers
use Rattle.em_regs.specs.Setup.{value_of, pair}
use Rattle.em_regs.specs.Storage.{Registers}
use Rattle.em_regs.specs.Table.{mask_of, offset_of}
use Rattle.em_regs.proofs.Entries.{at-insert_other}
use Rattle.em_filter.specs.Bits.{vme}

-- ---- sides

-- a side's control register, and those of its ring, in the order of their offsets
pub record Side : Type 0 where
  pub control : Reg
  pub low : Reg
  pub high : Reg
  pub len : Reg
  pub head : Reg
  pub tail : Reg

pub record IsSide (r : Side) : Type 0 where
  pub control : 0 < offset_of r.control
  pub low : offset_of r.control < offset_of r.low
  pub high : offset_of r.low < offset_of r.high
  pub len : offset_of r.high < offset_of r.len
  pub head : offset_of r.len < offset_of r.head
  pub tail : offset_of r.head < offset_of r.tail

abbrev pub rx_side : Side
rx_side = record { control = Rctl; low = Rdbal; high = Rdbah; len = Rdlen; head = Rdh; tail = Rdt }

abbrev pub tx_side : Side
tx_side = record { control = Tctl; low = Tdbal; high = Tdbah; len = Tdlen; head = Tdh; tail = Tdt }

pub is_rx_side : IsSide rx_side
is_rx_side = record {
  control = omega arith;
  low = omega arith;
  high = omega arith;
  len = omega arith;
  head = omega arith;
  tail = omega arith;
}

pub is_tx_side : IsSide tx_side
is_tx_side = record {
  control = omega arith;
  low = omega arith;
  high = omega arith;
  len = omega arith;
  head = omega arith;
  tail = omega arith;
}

-- ---- what leaves them

-- the registers that a side goes by, but for its ring's head and tail
pub record SameSetup (r : Side) (m n : Registers) : Type 0 where
  pub control : value_of n r.control ≡ value_of m r.control
  pub base : pair n r.high r.low ≡ pair m r.high r.low
  pub len : value_of n r.len ≡ value_of m r.len
  pub vme : vme n ≡ vme m

-- all of them
pub record SameSide (r : Side) (m n : Registers) : Type 0 where
  pub setup : SameSetup r m n
  pub head : value_of n r.head ≡ value_of m r.head
  pub tail : value_of n r.tail ≡ value_of m r.tail

pub same_side : (r : Side) (m n : Registers) → n ≡ m → SameSide r m n
same_side r m n is = record {
  setup = record {
    control = ap (λ x. value_of x r.control) is;
    base = ap (λ x. pair x r.high r.low) is;
    len = ap (λ x. value_of x r.len) is;
    vme = ap vme is;
  };
  head = ap (λ x. value_of x r.head) is;
  tail = ap (λ x. value_of x r.tail) is;
}

-- a word at another offset leaves a register
kept : (m : Registers) (o v : ℕ) (reg : Reg) → offset_of reg ≢ o → value_of (map.insert m o v) reg ≡ value_of m reg
kept m o v reg other = at-insert_other m o v (offset_of reg) other

vme_by : (m n : Registers) → value_of n Ctrl ≡ value_of m Ctrl → vme n ≡ vme m
vme_by m n is = ap (λ v. bit_and v 0x4000_0000 == 0x4000_0000) is

pair_by : (m n : Registers) (low high : Reg) → value_of n high ≡ value_of m high → value_of n low ≡ value_of m low
    → pair n high low ≡ pair m high low
pair_by m n low high upper lower = λ i. upper i * 0x1_0000_0000 + lower i

setup_kept : (r : Side) (m : Registers) (o v : ℕ) → 0 ≢ o → offset_of r.control ≢ o → offset_of r.low ≢ o
    → offset_of r.high ≢ o → offset_of r.len ≢ o → SameSetup r m (map.insert m o v)
setup_kept r m o v ctrl control low high len =
    let n : Registers = map.insert m o v in
    record {
      control = kept m o v r.control control;
      base = pair_by m n r.low r.high (kept m o v r.high high) (kept m o v r.low low);
      len = kept m o v r.len len;
      vme = vme_by m n (kept m o v Ctrl ctrl);
    }

-- an offset of no register that a side goes by
pub record IsOther (r : Side) (o : ℕ) : Type 0 where
  pub ctrl : o ≢ 0
  pub control : o ≢ offset_of r.control
  pub ring : offset_of r.low ≤ o → offset_of r.tail < o

-- a word at such an offset
pub word_other : {r : Side} → IsSide r → (m : Registers) (o v : ℕ) → IsOther r o → SameSide r m (map.insert m o v)
word_other {r} is m o v out = record {
  setup = setup_kept r m o v (λ e. out.ctrl (sym e)) (λ e. out.control (sym e)) (λ e. omega (arith, out.ring))
      (λ e. omega (arith, out.ring)) (λ e. omega (arith, out.ring));
  head = kept m o v r.head (λ e. omega (arith, out.ring));
  tail = kept m o v r.tail (λ e. omega (arith, out.ring));
}

-- a write of another register
pub put_other_side : {r : Side} → IsSide r → (m : Registers) (reg : Reg) (v : ℕ) → IsOther r (offset_of reg)
    → SameSide r m (registers.put m reg v)
put_other_side {r} is m reg v out = word_other is m (offset_of reg) (bit_and v (mask_of reg)) out

-- a write of the head, and one of the tail
pub put_head : {r : Side} → IsSide r → (m : Registers) (v : ℕ) → SameSetup r m (registers.put m r.head v)
put_head {r} is m v =
    setup_kept r m (offset_of r.head) (bit_and v (mask_of r.head)) (λ e. omega arith) (λ e. omega arith)
    (λ e. omega arith) (λ e. omega arith) (λ e. omega arith)

pub put_tail : {r : Side} → IsSide r → (m : Registers) (v : ℕ) → SameSetup r m (registers.put m r.tail v)
put_tail {r} is m v =
    setup_kept r m (offset_of r.tail) (bit_and v (mask_of r.tail)) (λ e. omega arith) (λ e. omega arith)
    (λ e. omega arith) (λ e. omega arith) (λ e. omega arith)
