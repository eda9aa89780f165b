-- Registers and bits that have no rule: nothing goes by them, so all they do is to be read.
use Rattle.std.specs.Prelude.{◌≡◌, ℕ, ◌/◌, ◌%◌, ◌^◌, Result, Ok, Err}
use Rattle.em_regs.specs.declared.reg.Reg.TheVariants.{Vet, Rdbal, Rdbah, Rdlen, Rdh, Rdt}
use Rattle.em_regs.specs.declared.reg.Reg.TheVariants.{Tctl, Tdbal, Tdbah, Tdlen, Tdh, Tdt, Mta, Ral, Rah, Vfta}
use Rattle.em_regs.specs.Setup.{has, value_of}
use Rattle.em_regs.specs.Storage.{Registers}
use Rattle.em_filter.specs.Bits.{bam, cfi, lpe, mo, mpe, rctl, upe, vfe, vme}
use Rattle.em_step.specs.Event.{Event, reads}
use Rattle.em_step.specs.State.{State}
use Rattle.em_step.specs.declared.event.Answer.{Answer}
use Rattle.em_step.specs.declared.refusal.Refusal.{Refusal}

-- Two register files agree in all that has a rule. Not among it are EERD, CTRL_EXT, FCAL, FCAH, FCT, ITR, FCTTV, TIPG,
-- LEDCTL, PBA, RDTR, RXDCTL, RADV, TIDV, TXDCTL, TADV and RXCSUM, all other bits of CTRL, RCTL and TCTL, and TXCW, AIT,
-- FCRTL, FCRTH, WUC, WUFC, MANC and SWSM.
pub record AgreeInRules (m n : Registers) : Type 0 where
  -- CTRL
  pub vme : vme n ≡ vme m
  -- RCTL
  pub en : has (rctl n) 0x2 ≡ has (rctl m) 0x2
  pub sbp : has (rctl n) (2 ^ 2) ≡ has (rctl m) (2 ^ 2)
  pub upe : upe n ≡ upe m
  pub mpe : mpe n ≡ mpe m
  pub lpe : lpe n ≡ lpe m
  pub lbm : rctl n / 2 ^ 6 % 4 ≡ rctl m / 2 ^ 6 % 4
  pub rdmts : rctl n / 2 ^ 8 % 4 ≡ rctl m / 2 ^ 8 % 4
  pub mo : mo n ≡ mo m
  pub bam : bam n ≡ bam m
  pub bsize : rctl n / 2 ^ 16 % 4 ≡ rctl m / 2 ^ 16 % 4
  pub vfe : vfe n ≡ vfe m
  pub cfien : has (rctl n) (2 ^ 19) ≡ has (rctl m) (2 ^ 19)
  pub cfi : cfi n ≡ cfi m
  pub dpf : has (rctl n) (2 ^ 22) ≡ has (rctl m) (2 ^ 22)
  pub pmcf : has (rctl n) (2 ^ 23) ≡ has (rctl m) (2 ^ 23)
  pub bsex : has (rctl n) 0x0200_0000 ≡ has (rctl m) 0x0200_0000
  pub secrc : has (rctl n) 0x0400_0000 ≡ has (rctl m) 0x0400_0000
  -- TCTL
  pub tx_en : has (value_of n Tctl) 0x2 ≡ has (value_of m Tctl) 0x2
  pub psp : has (value_of n Tctl) 0x8 ≡ has (value_of m Tctl) 0x8
  -- whole registers
  pub vet : value_of n Vet ≡ value_of m Vet
  pub rdbal : value_of n Rdbal ≡ value_of m Rdbal
  pub rdbah : value_of n Rdbah ≡ value_of m Rdbah
  pub rdlen : value_of n Rdlen ≡ value_of m Rdlen
  pub rdh : value_of n Rdh ≡ value_of m Rdh
  pub rdt : value_of n Rdt ≡ value_of m Rdt
  pub tdbal : value_of n Tdbal ≡ value_of m Tdbal
  pub tdbah : value_of n Tdbah ≡ value_of m Tdbah
  pub tdlen : value_of n Tdlen ≡ value_of m Tdlen
  pub tdh : value_of n Tdh ≡ value_of m Tdh
  pub tdt : value_of n Tdt ≡ value_of m Tdt
  pub mta : (i : ℕ) → value_of n (Mta i) ≡ value_of m (Mta i)
  pub ral : (i : ℕ) → value_of n (Ral i) ≡ value_of m (Ral i)
  pub rah : (i : ℕ) → value_of n (Rah i) ≡ value_of m (Rah i)
  pub vfta : (i : ℕ) → value_of n (Vfta i) ≡ value_of m (Vfta i)

-- the same refusal, or the same answer, and states that are the same but for registers and bits without a rule
abbrev pub Alike : Result (Answer × State) Refusal → Result (Answer × State) Refusal → Type 0
Alike (Ok r) (Ok q) =
    (q.0 ≡ r.0) × ((n : Registers) × (q.1 ≡ record r.1 { registers = n }) × AgreeInRules r.1.registers n)
Alike (Err refusal) (Err other) = other ≡ refusal
Alike r q = ⊥

-- the event is no read
abbrev pub IsNoRead : Event → Type 0
IsNoRead (reads o) = ⊥
IsNoRead e = Unit {0}
