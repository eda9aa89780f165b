-- The table of the registers: where each lies, what an access does, which of its bits a write stores, and its place.
use Rattle.std.specs.Prelude.{
  Bool,
  true,
  false,
  ℕ,
  ◌+◌,
  ◌-◌,
  ◌*◌,
  ◌/◌,
  ◌%◌,
  ◌≡◌,
  ◌≤◌,
  ◌<◌,
  ◌==◌,
  ◌&&◌,
  nat_le,
  nat_lt,
  if◌then◌else◌,
  ◌++◌,
  IsTrue,
}
use Rattle.std.specs.Prelude.{List, [], ◌∷◌, Option, Some, None, codes}
use Rattle.em_regs.specs.declared.reg.Reg.{Reg}
use Rattle.em_regs.specs.declared.reg.Reg.TheVariants as named
use Rattle.em_regs.specs.declared.table.Row.{Row}
use Rattle.em_regs.specs.declared.profile.Profile.{Profile}
use Rattle.em_regs.specs.declared.profile.Profile.TheVariants.{Table, Adapter}
use Rattle.em_regs.specs.declared.table.Kind.{Kind}
use Rattle.em_regs.specs.declared.table.Kind.TheVariants.{Stored, Control, EepromRead, Status, Interrupt, Counter}
use Rattle.em_regs.specs.declared.table.Kind.TheVariants.{EepromPins, PhyCommand, Uncounted}

-- an array: n words that lie some octets apart, which store the bits of a mask
abbrev pub array : ℕ → ℕ → ℕ → ℕ → ℕ → Row
array offset n spacing mask place =
    record {
      since = Table;
      offset = offset;
      words = n;
      spacing = spacing;
      kind = Stored;
      mask = mask;
      narrow = false;
      place = place;
    }

-- a row that the second profile has, and the first has not
abbrev pub later : Row → Row
later row = record row { since = Adapter }

-- a row of which the second profile stores 16 bits alone
abbrev pub narrowed : Row → Row
narrowed row = record row { narrow = true }

-- one such word
abbrev pub word : ℕ → ℕ → ℕ → Row
word offset mask place = array offset 1 4 mask place

-- one whose accesses can do more
abbrev pub acting : Kind → ℕ → ℕ → ℕ → Row
acting kind offset mask place = record (word offset mask place) { kind = kind }

-- a register of which the register file keeps nothing
abbrev pub other : ℕ → Kind → ℕ → Row
other offset kind place = acting kind offset 0xFFFF_FFFF place

-- a row with the register's name, of an array the array's name
pub record NamedRow : Type 0 where
  pub name : List ℕ
  pub row : Row

abbrev pub called : List ℕ → Row → NamedRow
called name row = record { name = name; row = row }

-- the table: name, offset, mask or kind, and the place: among the words of a register file, or among the counters
abbrev pub named_row_of : Reg → NamedRow
named_row_of named.Ctrl = called (codes "CTRL") (acting Control 0x00000 0xFFFF_FFFF 0)
named_row_of named.Status = called (codes "STATUS") (other 0x00008 Status 0)
named_row_of named.Eerd = called (codes "EERD") (acting EepromRead 0x00014 0x0000_FF00 1)
named_row_of named.CtrlExt = called (codes "CTRL_EXT") (word 0x00018 0xFFFF_FFFF 2)
named_row_of named.Fcal = called (codes "FCAL") (word 0x00028 0xFFFF_FFFF 3)
named_row_of named.Fcah = called (codes "FCAH") (narrowed (word 0x0002C 0xFFFF_FFFF 4))
named_row_of named.Fct = called (codes "FCT") (narrowed (word 0x00030 0xFFFF_FFFF 5))
named_row_of named.Vet = called (codes "VET") (word 0x00038 0x0000_FFFF 6)
named_row_of named.Icr = called (codes "ICR") (other 0x000C0 Interrupt 0)
named_row_of named.Itr = called (codes "ITR") (narrowed (word 0x000C4 0xFFFF_FFFF 7))
named_row_of named.Ics = called (codes "ICS") (other 0x000C8 Interrupt 0)
named_row_of named.Ims = called (codes "IMS") (other 0x000D0 Interrupt 0)
named_row_of named.Imc = called (codes "IMC") (other 0x000D8 Interrupt 0)
named_row_of named.Rctl = called (codes "RCTL") (word 0x00100 0xFFFF_FFFF 8)
named_row_of named.Fcttv = called (codes "FCTTV") (narrowed (word 0x00170 0xFFFF_FFFF 9))
named_row_of named.Tctl = called (codes "TCTL") (word 0x00400 0xFFFF_FFFF 10)
named_row_of named.Tipg = called (codes "TIPG") (word 0x00410 0xFFFF_FFFF 11)
named_row_of named.Ledctl = called (codes "LEDCTL") (word 0x00E00 0xFFFF_FFFF 12)
named_row_of named.Pba = called (codes "PBA") (word 0x01000 0xFFFF_FFFF 13)
named_row_of named.Rdbal = called (codes "RDBAL") (word 0x02800 0xFFFF_FFF0 14)
named_row_of named.Rdbah = called (codes "RDBAH") (word 0x02804 0xFFFF_FFFF 15)
named_row_of named.Rdlen = called (codes "RDLEN") (word 0x02808 0x000F_FF80 16)
named_row_of named.Rdh = called (codes "RDH") (word 0x02810 0x0000_FFFF 17)
named_row_of named.Rdt = called (codes "RDT") (word 0x02818 0x0000_FFFF 18)
named_row_of named.Rdtr = called (codes "RDTR") (narrowed (word 0x02820 0xFFFF_FFFF 19))
named_row_of named.Rxdctl = called (codes "RXDCTL") (word 0x02828 0xFFFF_FFFF 20)
named_row_of named.Radv = called (codes "RADV") (narrowed (word 0x0282C 0xFFFF_FFFF 21))
named_row_of named.Tdbal = called (codes "TDBAL") (word 0x03800 0xFFFF_FFF0 22)
named_row_of named.Tdbah = called (codes "TDBAH") (word 0x03804 0xFFFF_FFFF 23)
named_row_of named.Tdlen = called (codes "TDLEN") (word 0x03808 0x000F_FF80 24)
named_row_of named.Tdh = called (codes "TDH") (word 0x03810 0x0000_FFFF 25)
named_row_of named.Tdt = called (codes "TDT") (word 0x03818 0x0000_FFFF 26)
named_row_of named.Tidv = called (codes "TIDV") (narrowed (word 0x03820 0xFFFF_FFFF 27))
named_row_of named.Txdctl = called (codes "TXDCTL") (word 0x03828 0xFFFF_FFFF 28)
named_row_of named.Tadv = called (codes "TADV") (narrowed (word 0x0382C 0xFFFF_FFFF 29))
named_row_of named.Mpc = called (codes "MPC") (other 0x04010 Counter 0)
named_row_of named.Prc64 = called (codes "PRC64") (other 0x0405C Counter 1)
named_row_of named.Prc127 = called (codes "PRC127") (other 0x04060 Counter 2)
named_row_of named.Prc255 = called (codes "PRC255") (other 0x04064 Counter 3)
named_row_of named.Prc511 = called (codes "PRC511") (other 0x04068 Counter 4)
named_row_of named.Prc1023 = called (codes "PRC1023") (other 0x0406C Counter 5)
named_row_of named.Prc1522 = called (codes "PRC1522") (other 0x04070 Counter 6)
named_row_of named.Gprc = called (codes "GPRC") (other 0x04074 Counter 7)
named_row_of named.Bprc = called (codes "BPRC") (other 0x04078 Counter 8)
named_row_of named.Mprc = called (codes "MPRC") (other 0x0407C Counter 9)
named_row_of named.Gptc = called (codes "GPTC") (other 0x04080 Counter 10)
named_row_of named.Gorcl = called (codes "GORCL") (other 0x04088 Counter 11)
named_row_of named.Gorch = called (codes "GORCH") (other 0x0408C Counter 12)
named_row_of named.Gotcl = called (codes "GOTCL") (other 0x04090 Counter 13)
named_row_of named.Gotch = called (codes "GOTCH") (other 0x04094 Counter 14)
named_row_of named.Rnbc = called (codes "RNBC") (other 0x040A0 Counter 15)
named_row_of named.Ruc = called (codes "RUC") (other 0x040A4 Counter 16)
named_row_of named.Roc = called (codes "ROC") (other 0x040AC Counter 17)
named_row_of named.Ptc64 = called (codes "PTC64") (other 0x040D8 Counter 18)
named_row_of named.Ptc127 = called (codes "PTC127") (other 0x040DC Counter 19)
named_row_of named.Ptc255 = called (codes "PTC255") (other 0x040E0 Counter 20)
named_row_of named.Ptc511 = called (codes "PTC511") (other 0x040E4 Counter 21)
named_row_of named.Ptc1023 = called (codes "PTC1023") (other 0x040E8 Counter 22)
named_row_of named.Ptc1522 = called (codes "PTC1522") (other 0x040EC Counter 23)
named_row_of named.Mptc = called (codes "MPTC") (other 0x040F0 Counter 24)
named_row_of named.Bptc = called (codes "BPTC") (other 0x040F4 Counter 25)
named_row_of named.Rxcsum = called (codes "RXCSUM") (word 0x05000 0xFFFF_FFFF 30)
named_row_of (named.Mta _) = called (codes "MTA") (array 0x05200 128 4 0xFFFF_FFFF 31)
named_row_of (named.Ral _) = called (codes "RAL") (array 0x05400 16 8 0xFFFF_FFFF 159)
named_row_of (named.Rah _) = called (codes "RAH") (array 0x05404 16 8 0x8003_FFFF 175)
named_row_of (named.Vfta _) = called (codes "VFTA") (array 0x05600 128 4 0xFFFF_FFFF 191)
named_row_of named.Eecd = called (codes "EECD") (later (other 0x00010 EepromPins 0))
named_row_of named.Mdic = called (codes "MDIC") (later (other 0x00020 PhyCommand 0))
named_row_of named.Txcw = called (codes "TXCW") (later (word 0x00178 0xC000_FFFF 319))
named_row_of named.Ait = called (codes "AIT") (later (word 0x00458 0x0000_FFFF 320))
named_row_of named.Fcrtl = called (codes "FCRTL") (later (word 0x02160 0x8000_FFF8 321))
named_row_of named.Fcrth = called (codes "FCRTH") (later (word 0x02168 0x0000_FFF8 322))
named_row_of named.Wuc = called (codes "WUC") (later (word 0x05800 0xFFFF_FFFF 323))
named_row_of named.Wufc = called (codes "WUFC") (later (word 0x05808 0xFFFF_FFFF 324))
named_row_of named.Manc = called (codes "MANC") (later (word 0x05820 0xFFFF_FFFF 325))
named_row_of named.Swsm = called (codes "SWSM") (later (word 0x05B50 0xFFFF_FFFF 326))
named_row_of named.Torl = called (codes "TORL") (later (other 0x040C0 Counter 26))
named_row_of named.Torh = called (codes "TORH") (later (other 0x040C4 Counter 27))
named_row_of named.Totl = called (codes "TOTL") (later (other 0x040C8 Counter 28))
named_row_of named.Toth = called (codes "TOTH") (later (other 0x040CC Counter 29))
named_row_of named.Tpr = called (codes "TPR") (later (other 0x040D0 Counter 30))
named_row_of named.Tpt = called (codes "TPT") (later (other 0x040D4 Counter 31))
named_row_of named.Crcerrs = called (codes "CRCERRS") (later (other 0x04000 Uncounted 0))
named_row_of named.Algnerrc = called (codes "ALGNERRC") (later (other 0x04004 Uncounted 0))
named_row_of named.Symerrs = called (codes "SYMERRS") (later (other 0x04008 Uncounted 0))
named_row_of named.Rxerrc = called (codes "RXERRC") (later (other 0x0400C Uncounted 0))
named_row_of named.Scc = called (codes "SCC") (later (other 0x04014 Uncounted 0))
named_row_of named.Ecol = called (codes "ECOL") (later (other 0x04018 Uncounted 0))
named_row_of named.Mcc = called (codes "MCC") (later (other 0x0401C Uncounted 0))
named_row_of named.Latecol = called (codes "LATECOL") (later (other 0x04020 Uncounted 0))
named_row_of named.Colc = called (codes "COLC") (later (other 0x04028 Uncounted 0))
named_row_of named.Dc = called (codes "DC") (later (other 0x04030 Uncounted 0))
named_row_of named.Tncrs = called (codes "TNCRS") (later (other 0x04034 Uncounted 0))
named_row_of named.Sec = called (codes "SEC") (later (other 0x04038 Uncounted 0))
named_row_of named.Cexterr = called (codes "CEXTERR") (later (other 0x0403C Uncounted 0))
named_row_of named.Rlec = called (codes "RLEC") (later (other 0x04040 Uncounted 0))
named_row_of named.Xonrxc = called (codes "XONRXC") (later (other 0x04048 Uncounted 0))
named_row_of named.Xontxc = called (codes "XONTXC") (later (other 0x0404C Uncounted 0))
named_row_of named.Xoffrxc = called (codes "XOFFRXC") (later (other 0x04050 Uncounted 0))
named_row_of named.Xofftxc = called (codes "XOFFTXC") (later (other 0x04054 Uncounted 0))
named_row_of named.Fcruc = called (codes "FCRUC") (later (other 0x04058 Uncounted 0))
named_row_of named.Rfc = called (codes "RFC") (later (other 0x040A8 Uncounted 0))
named_row_of named.Rjc = called (codes "RJC") (later (other 0x040B0 Uncounted 0))
named_row_of named.Mgtprc = called (codes "MGTPRC") (later (other 0x040B4 Uncounted 0))
named_row_of named.Mgtpdc = called (codes "MGTPDC") (later (other 0x040B8 Uncounted 0))
named_row_of named.Mgtptc = called (codes "MGTPTC") (later (other 0x040BC Uncounted 0))
named_row_of named.Tsctc = called (codes "TSCTC") (later (other 0x040F8 Uncounted 0))
named_row_of named.Tsctfc = called (codes "TSCTFC") (later (other 0x040FC Uncounted 0))

abbrev pub row_of : Reg → Row
row_of reg = (named_row_of reg).row

-- the manual's name, of an array the array's name
abbrev pub stem_of : Reg → List ℕ
stem_of reg = (named_row_of reg).name

-- which of its row's words a register is
abbrev pub index_of : Reg → ℕ
index_of (named.Mta i) = i
index_of (named.Ral i) = i
index_of (named.Rah i) = i
index_of (named.Vfta i) = i
index_of _ = 0

-- the register of the same row with another index
abbrev pub with_index : Reg → ℕ → Reg
with_index (named.Mta _) i = named.Mta i
with_index (named.Ral _) i = named.Ral i
with_index (named.Rah _) i = named.Rah i
with_index (named.Vfta _) i = named.Vfta i
with_index reg _ = reg

-- the index of an array's register lies in the array
abbrev pub IsReg : Reg → Type 0
IsReg reg = index_of reg < (row_of reg).words

-- where a register lies
abbrev pub offset_of : Reg → ℕ
offset_of reg = (row_of reg).offset + (row_of reg).spacing * index_of reg

-- the bits that a write stores
abbrev pub mask_of : Reg → ℕ
mask_of reg = (row_of reg).mask

-- the bits that a write stores in a profile
abbrev pub kept_bits : Bool → Profile → ℕ → ℕ
kept_bits false profile mask = mask
kept_bits true Table mask = mask
kept_bits true Adapter mask = 0x0000_FFFF

abbrev pub mask_by : Row → Profile → ℕ
mask_by row profile = kept_bits row.narrow profile row.mask

abbrev pub mask_in : Profile → Reg → ℕ
mask_in profile reg = mask_by (row_of reg) profile

-- which word of its kind keeps a register
abbrev pub place_of : Reg → ℕ
place_of reg = (row_of reg).place + index_of reg

abbrev pub is_stored_kind : Kind → Bool
is_stored_kind Stored = true
is_stored_kind Control = true
is_stored_kind EepromRead = true
is_stored_kind kind = false

-- a register that keeps what software writes: every one but STATUS, the interrupt registers, the counters, EECD and MDIC
abbrev pub is_stored : Reg → Bool
is_stored reg = is_stored_kind (row_of reg).kind

abbrev pub is_counter_kind : Kind → Bool
is_counter_kind Counter = true
is_counter_kind kind = false

abbrev pub is_counter : Reg → Bool
is_counter reg = is_counter_kind (row_of reg).kind

-- the first register of each row of the first profile, those of a kind in the order of their places
abbrev pub registers_of_table : List Reg
registers_of_table = named.Ctrl ∷ named.Status ∷ named.Eerd ∷ named.CtrlExt ∷ named.Fcal ∷ named.Fcah ∷ named.Fct ∷ named.Vet ∷
    named.Icr ∷ named.Itr ∷ named.Ics ∷ named.Ims ∷ named.Imc ∷ named.Rctl ∷ named.Fcttv ∷ named.Tctl ∷ named.Tipg ∷
    named.Ledctl ∷ named.Pba ∷ named.Rdbal ∷ named.Rdbah ∷ named.Rdlen ∷ named.Rdh ∷ named.Rdt ∷ named.Rdtr ∷
    named.Rxdctl ∷ named.Radv ∷ named.Tdbal ∷ named.Tdbah ∷ named.Tdlen ∷ named.Tdh ∷ named.Tdt ∷ named.Tidv ∷
    named.Txdctl ∷ named.Tadv ∷ named.Mpc ∷ named.Prc64 ∷ named.Prc127 ∷ named.Prc255 ∷ named.Prc511 ∷ named.Prc1023 ∷
    named.Prc1522 ∷ named.Gprc ∷ named.Bprc ∷ named.Mprc ∷ named.Gptc ∷ named.Gorcl ∷ named.Gorch ∷ named.Gotcl ∷
    named.Gotch ∷ named.Rnbc ∷ named.Ruc ∷ named.Roc ∷ named.Ptc64 ∷ named.Ptc127 ∷ named.Ptc255 ∷ named.Ptc511 ∷
    named.Ptc1023 ∷ named.Ptc1522 ∷ named.Mptc ∷ named.Bptc ∷ named.Rxcsum ∷ named.Mta 0 ∷ named.Ral 0 ∷ named.Rah 0 ∷
    named.Vfta 0 ∷ []

-- those of the rows that the second profile has besides
abbrev pub registers_besides : List Reg
registers_besides = named.Eecd ∷ named.Mdic ∷ named.Txcw ∷ named.Ait ∷ named.Fcrtl ∷ named.Fcrth ∷ named.Wuc ∷ named.Wufc ∷
    named.Manc ∷ named.Swsm ∷ named.Torl ∷ named.Torh ∷ named.Totl ∷ named.Toth ∷ named.Tpr ∷ named.Tpt ∷
    named.Crcerrs ∷ named.Algnerrc ∷ named.Symerrs ∷ named.Rxerrc ∷ named.Scc ∷ named.Ecol ∷ named.Mcc ∷ named.Latecol
    ∷ named.Colc ∷ named.Dc ∷ named.Tncrs ∷ named.Sec ∷ named.Cexterr ∷ named.Rlec ∷ named.Xonrxc ∷ named.Xontxc ∷
    named.Xoffrxc ∷ named.Xofftxc ∷ named.Fcruc ∷ named.Rfc ∷ named.Rjc ∷ named.Mgtprc ∷ named.Mgtpdc ∷ named.Mgtptc ∷
    named.Tsctc ∷ named.Tsctfc ∷ []

-- those of all rows
abbrev pub registers : List Reg
registers = registers_of_table ++ registers_besides

-- a word of the row lies at the offset
abbrev pub has_word_at : Row → ℕ → Bool
has_word_at row o =
    nat_le row.offset o && nat_lt (o - row.offset) (row.spacing * row.words) && ((o - row.offset) % row.spacing) == 0

-- the register of the rows at an offset
abbrev pub reg_in : List Reg → ℕ → Option Reg
reg_in [] o = None
reg_in (r ∷ rs) o =
    if has_word_at (row_of r) o then Some (with_index r ((o - (row_of r).offset) / (row_of r).spacing)) else reg_in rs o

-- the register of any row at an offset
unfoldable pub reg_at : ℕ → Option Reg
reg_at o = reg_in registers o

-- rows that the first profile has are in each, and those that the second has besides in the second alone
abbrev pub is_in : Profile → Profile → Bool
is_in Table profile = true
is_in Adapter Adapter = true
is_in Adapter Table = false

abbrev pub has_reg : Profile → Reg → Bool
has_reg profile reg = is_in (row_of reg).since profile

-- a register of a profile
abbrev pub IsRegOf : Profile → Reg → Type 0
IsRegOf profile reg = IsReg reg × IsTrue (has_reg profile reg)

-- the register of a profile at an offset
abbrev pub kept_by : Profile → Option Reg → Option Reg
kept_by profile None = None
kept_by profile (Some reg) = if has_reg profile reg then Some reg else None

abbrev pub reg_of : Profile → ℕ → Option Reg
reg_of profile o = kept_by profile (reg_at o)

-- where no register lies, the second profile answers at each word of the 128 KiB that the part's registers have
abbrev pub answers_at : Profile → ℕ → Bool
answers_at Table o = false
answers_at Adapter o = nat_lt o 0x2_0000 && (o % 4 == 0)

-- the register of the first profile's rows at an offset
unfoldable pub reg_of_table : ℕ → Option Reg
reg_of_table o = reg_in registers_of_table o

-- no register lies from an offset on below another
abbrev pub NoneFrom : ℕ → ℕ → Type 0
NoneFrom from below = (o : ℕ) → from ≤ o → o < below → reg_at o ≡ None
