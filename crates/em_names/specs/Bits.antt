-- The bits and fields of the registers, as the manual's tables have them, and how they are shown.
use Rattle.std.specs.Prelude.{ℕ, ◌+◌, ◌-◌, ◌/◌, ◌%◌, ◌^◌, ◌==◌, bit_and, if◌then◌else◌}
use Rattle.std.specs.Prelude.{List, [], ◌∷◌, ◌++◌, fold, slice_index, codes, decimal}
use Rattle.std.specs.List.{flat_map}
use Rattle.std.specs.Int.{w16, to_be_bytes}
use Rattle.em_text.specs.Writer.{hex_text, value_digits}
use Rattle.em_regs.specs.Setup.{buffer_size}
use Rattle.em_regs.specs.declared.reg.Reg.{Reg}
use Rattle.em_regs.specs.declared.reg.Reg.TheVariants as named
use Rattle.em_names.specs.Names.{name_of}
use Rattle.em_names.specs.declared.field.Field.{Field}
use Rattle.em_names.specs.declared.field.Form.{Form}
use Rattle.em_names.specs.declared.field.Form.TheVariants.{Bit, Number, Digits, Speed, Size}

-- a row of a table: its name, its bits, the lowest of them, and how it is shown
pub record Row : Type 0 where
  pub name : List ℕ
  pub mask : ℕ
  pub lowest : ℕ
  pub form : Form

-- a bit
abbrev pub bit : List ℕ → ℕ → Row
bit name k = record { name = name; mask = 2 ^ k; lowest = 2 ^ k; form = Bit }

-- a field from a high bit down to a low one
abbrev pub field : List ℕ → ℕ → ℕ → Form → Row
field name high low form = record { name = name; mask = 2 ^ (high + 1) - 2 ^ low; lowest = 2 ^ low; form = form }

-- ---- the tables

abbrev pub ctrl : List Row
ctrl = bit (codes "FD") 0 ∷ bit (codes "ASDE") 5 ∷ bit (codes "SLU") 6 ∷ field (codes "SPEED") 9 8 Speed ∷
    bit (codes "FRCSPD") 11 ∷ bit (codes "FRCDPLX") 12 ∷ bit (codes "SDP0_DATA") 18 ∷ bit (codes "SDP1_DATA") 19 ∷
    bit (codes "ADVD3WUC") 20 ∷ bit (codes "EN_PHY_PWR_MGMT") 21 ∷ bit (codes "SDP0_IODIR") 22 ∷
    bit (codes "SDP1_IODIR") 23 ∷ bit (codes "RST") 26 ∷ bit (codes "RFCE") 27 ∷ bit (codes "TFCE") 28 ∷
    bit (codes "VME") 30 ∷ bit (codes "PHY_RST") 31 ∷ []

abbrev pub status : List Row
status = bit (codes "FD") 0 ∷ bit (codes "LU") 1 ∷ bit (codes "TXOFF") 4 ∷ field (codes "SPEED") 7 6 Speed ∷
    field (codes "ASDV") 9 8 Speed ∷ bit (codes "PCI66") 11 ∷ []

abbrev pub eerd : List Row
eerd = bit (codes "START") 0 ∷ bit (codes "DONE") 4 ∷ field (codes "ADDR") 15 8 Digits ∷
    field (codes "DATA") 31 16 Digits ∷ []

-- the pins of the EEPROM
abbrev pub eecd : List Row
eecd = bit (codes "SK") 0 ∷ bit (codes "CS") 1 ∷ bit (codes "DI") 2 ∷ bit (codes "DO") 3 ∷
    field (codes "FWE") 5 4 Number ∷ bit (codes "REQ") 6 ∷ bit (codes "GNT") 7 ∷ bit (codes "PRES") 8 ∷
    bit (codes "SIZE") 9 ∷ []

-- a command to the PHY
abbrev pub mdic : List Row
mdic = field (codes "DATA") 15 0 Digits ∷ field (codes "REGADD") 20 16 Number ∷ field (codes "PHYADD") 25 21 Number ∷
    field (codes "OP") 27 26 Number ∷ bit (codes "R") 28 ∷ bit (codes "I") 29 ∷ bit (codes "E") 30 ∷ []

-- of ICR, ICS, IMS and IMC
abbrev pub causes : List Row
causes = bit (codes "TXDW") 0 ∷ bit (codes "TXQE") 1 ∷ bit (codes "LSC") 2 ∷ bit (codes "RXSEQ") 3 ∷
    bit (codes "RXDMT0") 4 ∷ bit (codes "RXO") 6 ∷ bit (codes "RXT0") 7 ∷ bit (codes "MDAC") 9 ∷
    bit (codes "RXCFG") 10 ∷ bit (codes "PHYINT") 12 ∷ bit (codes "GPI_SDP6") 13 ∷ bit (codes "GPI_SDP7") 14 ∷
    bit (codes "TXD_LOW") 15 ∷ bit (codes "SRPD") 16 ∷ []

abbrev pub rctl : List Row
rctl = bit (codes "EN") 1 ∷ bit (codes "SBP") 2 ∷ bit (codes "UPE") 3 ∷ bit (codes "MPE") 4 ∷ bit (codes "LPE") 5 ∷
    field (codes "LBM") 7 6 Number ∷ field (codes "RDMTS") 9 8 Number ∷ field (codes "MO") 13 12 Number ∷
    bit (codes "BAM") 15 ∷ field (codes "BSIZE") 17 16 Size ∷ bit (codes "VFE") 18 ∷ bit (codes "CFIEN") 19 ∷
    bit (codes "CFI") 20 ∷ bit (codes "DPF") 22 ∷ bit (codes "PMCF") 23 ∷ bit (codes "BSEX") 25 ∷
    bit (codes "SECRC") 26 ∷ []

abbrev pub tctl : List Row
tctl = bit (codes "EN") 1 ∷ bit (codes "PSP") 3 ∷ field (codes "CT") 11 4 Number ∷ field (codes "COLD") 21 12 Number ∷
    bit (codes "SWXOFF") 22 ∷ bit (codes "RTLC") 24 ∷ []

abbrev pub tipg : List Row
tipg = field (codes "IPGT") 9 0 Number ∷ field (codes "IPGR1") 19 10 Number ∷ field (codes "IPGR2") 29 20 Number ∷ []

abbrev pub pba : List Row
pba = field (codes "RXA") 15 0 Number ∷ field (codes "TXA") 31 16 Number ∷ []

-- the thresholds of a descriptor queue: for prefetching, in the host's memory, and for writing back
abbrev pub rxdctl : List Row
rxdctl = field (codes "PTHRESH") 5 0 Number ∷ field (codes "HTHRESH") 13 8 Number ∷
    field (codes "WTHRESH") 21 16 Number ∷ bit (codes "GRAN") 24 ∷ []

abbrev pub txdctl : List Row
txdctl = field (codes "PTHRESH") 5 0 Number ∷ field (codes "HTHRESH") 13 8 Number ∷
    field (codes "WTHRESH") 21 16 Number ∷ bit (codes "GRAN") 24 ∷ field (codes "LWTHRESH") 31 25 Number ∷ []

abbrev pub txcw : List Row
txcw = field (codes "TxConfigWord") 15 0 Digits ∷ bit (codes "TxConfig") 30 ∷ bit (codes "ANE") 31 ∷ []

-- when the receive FIFO lets the sender go on, and stops it
abbrev pub fcrtl : List Row
fcrtl = field (codes "RTL") 15 3 Number ∷ bit (codes "XONE") 31 ∷ []

abbrev pub fcrth : List Row
fcrth = field (codes "RTH") 15 3 Number ∷ []

-- what wakes the host
abbrev pub wuc : List Row
wuc = bit (codes "APME") 0 ∷ bit (codes "PME_En") 1 ∷ bit (codes "PME_Status") 2 ∷ bit (codes "APMPME") 3 ∷ []

abbrev pub wufc : List Row
wufc = bit (codes "LNKC") 0 ∷ bit (codes "MAG") 1 ∷ bit (codes "EX") 2 ∷ bit (codes "MC") 3 ∷ bit (codes "BC") 4 ∷
    bit (codes "ARP") 5 ∷ bit (codes "IPv4") 6 ∷ bit (codes "IPv6") 7 ∷ bit (codes "FLX0") 16 ∷
    bit (codes "FLX1") 17 ∷ bit (codes "FLX2") 18 ∷ bit (codes "FLX3") 19 ∷ []

-- management, and the pins of its SMBus
abbrev pub manc : List Row
manc = bit (codes "SMBUS_EN") 0 ∷ bit (codes "ASF_EN") 1 ∷ bit (codes "R_ON_FORCE") 2 ∷ bit (codes "RMCP_EN") 8 ∷
    bit (codes "0298_EN") 9 ∷ bit (codes "IPv4_EN") 10 ∷ bit (codes "IPv6_EN") 11 ∷ bit (codes "SNAP_EN") 12 ∷
    bit (codes "ARP_EN") 13 ∷ bit (codes "NEIGHBOR_EN") 14 ∷ bit (codes "ARP_RES_EN") 15 ∷
    bit (codes "TCO_RESET") 16 ∷ bit (codes "RCV_TCO_EN") 17 ∷ bit (codes "REPORT_STATUS") 18 ∷
    bit (codes "SMB_REQ") 24 ∷ bit (codes "SMB_GNT") 25 ∷ bit (codes "SMB_CLK_IN") 26 ∷
    bit (codes "SMB_DATA_IN") 27 ∷ bit (codes "SMB_DATA_OUT") 28 ∷ bit (codes "SMB_CLK_OUT") 29 ∷ []

abbrev pub rah : List Row
rah = field (codes "RAH") 15 0 Digits ∷ field (codes "AS") 17 16 Number ∷ bit (codes "AV") 31 ∷ []

-- a register's table; the others are shown as one number
abbrev pub table_of : Reg → List Row
table_of named.Ctrl = ctrl
table_of named.Status = status
table_of named.Eecd = eecd
table_of named.Eerd = eerd
table_of named.Mdic = mdic
table_of named.Icr = causes
table_of named.Ics = causes
table_of named.Ims = causes
table_of named.Imc = causes
table_of named.Rctl = rctl
table_of named.Tctl = tctl
table_of named.Tipg = tipg
table_of named.Pba = pba
table_of named.Rxdctl = rxdctl
table_of named.Txdctl = txdctl
table_of named.Txcw = txcw
table_of named.Fcrtl = fcrtl
table_of named.Fcrth = fcrth
table_of named.Wuc = wuc
table_of named.Wufc = wufc
table_of named.Manc = manc
table_of (named.Rah _) = rah
table_of _ = []

-- the row that the code has
abbrev pub row_of_field : Field → Row
row_of_field f = record { name = f.name.now; mask = f.mask; lowest = f.lowest; form = f.form }

-- ---- how they are shown

-- what a field holds
abbrev pub number_in : ℕ → Row → ℕ
number_in value row = bit_and value row.mask / row.lowest

-- the speed in Mb/s: 10, 100, and 1,000 for 10b and 11b
abbrev pub speed : ℕ → ℕ
speed n = slice_index (10 ∷ 100 ∷ 1000 ∷ 1000 ∷ []) n

-- behind a space its name, and a text behind it
abbrev pub with_name : Row → List ℕ → List ℕ
with_name row text = codes " " ++ (row.name ++ text)

-- the same with a value
abbrev pub with_value : Row → List ℕ → List ℕ
with_value row text = codes " " ++ (row.name ++ (codes "=" ++ text))

-- the low 16 bits of a number in 4 hexadecimal digits
abbrev pub four_digits : ℕ → List ℕ
four_digits n = hex_text (to_be_bytes w16 (n % 2 ^ 16))

-- a row of the table at a register's value
abbrev pub text_as : Form → Row → ℕ → ℕ → List ℕ
text_as Bit row value n = if n == 0 then [] else with_name row []
text_as Number row value n = if n == 0 then [] else with_value row (decimal n)
text_as Digits row value n = if n == 0 then [] else with_value row (four_digits n)
text_as Speed row value n = if n == 0 then [] else with_value row (decimal (speed (n % 4)))
text_as Size row value n = with_value row (decimal (buffer_size value))

abbrev pub row_text : ℕ → Row → List ℕ
row_text value row = text_as row.form row value (number_in value row)

-- the bits of a value that have no name
abbrev pub unnamed : List Row → ℕ → ℕ
unnamed rows value = fold (λ rest row. bit_and rest (0xFFFF_FFFF - row.mask)) value rows

-- bits that have no name, in 8 hexadecimal digits
abbrev pub rest_text : ℕ → List ℕ
rest_text rest = if rest == 0 then [] else codes " " ++ value_digits rest

-- every row, and then the bits that have no name
abbrev pub table_text : List Row → ℕ → List ℕ
table_text [] value = []
table_text (row ∷ rows) value =
    flat_map (row_text value) (row ∷ rows) ++ rest_text (unnamed (row ∷ rows) value)

-- the bits and fields of a register that holds the value
abbrev pub bits_text : Reg → ℕ → List ℕ
bits_text reg value = table_text (table_of reg) value

-- the register's name, its value in 8 hexadecimal digits, and its bits and fields
abbrev pub register_text : Reg → ℕ → List ℕ
register_text reg value = name_of reg ++ (codes " " ++ (value_digits value ++ bits_text reg value))
