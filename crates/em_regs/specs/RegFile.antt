-- Registers as a map from offset to number, and what a write does to it.
use Rattle.std.specs.Prelude.{
  ◌≡◌,
  ℕ,
  ◌+◌,
  ◌*◌,
  List,
  [],
  ◌∷◌,
  IsTrue,
  Option,
  Some,
  None,
  ◌==◌,
  if◌then◌else◌,
  unwrap_or,
  bit_and,
  slice_index,
  length,
  replicate,
}
use Rattle.std.specs.FinMap as map
use Rattle.std.specs.Coded.{Coded, coded_ℕ}
use Rattle.std.specs.Int.{w16, w32, from_le_bytes}
use Rattle.em_regs.specs.declared.reg.Reg.{Reg}
use Rattle.em_regs.specs.declared.reg.Reg.TheVariants.{Ctrl, Eerd, Ledctl, Manc, Pba, Ral, Rah, Vet}
use Rattle.em_regs.specs.declared.table.Kind.TheVariants.{Stored}
use Rattle.em_regs.specs.Table.{IsReg, is_stored, row_of, offset_of, mask_in, mask_of}
use Rattle.em_regs.specs.declared.profile.Profile.{Profile}
use Rattle.em_regs.specs.declared.profile.Profile.TheVariants.{Table, Adapter}
use Rattle.em_regs.specs.Storage.{Registers, words_at, offsets}

abbrev pub registers_code : Coded Registers
registers_code = map.code coded_ℕ coded_ℕ

-- the number at an offset
abbrev pub at : Registers → ℕ → ℕ
at m o = unwrap_or (map.get m o) 0

-- the numbers at some offsets, one after another
abbrev pub words_of : List ℕ → Registers → List ℕ
words_of [] m = []
words_of (o ∷ os) m = at m o ∷ words_of os m

-- a register of the table that keeps what software writes
abbrev pub IsStored : Reg → Type 0
IsStored reg = IsReg reg × IsTrue (is_stored reg)

-- one whose write does nothing else
abbrev pub OnlyStores : Reg → Type 0
OnlyStores reg = IsReg reg × ((row_of reg).kind ≡ Stored)

-- ---- writes
-- the registers after a write of v
abbrev pub put : Registers → Reg → ℕ → Registers
put m reg v = map.insert m (offset_of reg) (bit_and v (mask_of reg))

-- and in a profile
abbrev pub put_in : Profile → Registers → Reg → ℕ → Registers
put_in p m reg v = map.insert m (offset_of reg) (bit_and v (mask_in p reg))

-- what EERD holds after a read of the EEPROM was started: DONE (bit 4), the address and the word there
abbrev pub eerd_value : ℕ → ℕ → ℕ
eerd_value address word = 0x10 + 0x100 * address + 0x1_0000 * word

-- the registers after that
abbrev pub put_eerd : Registers → ℕ → ℕ → Registers
put_eerd m address word = map.insert m (offset_of Eerd) (eerd_value address word)

-- ---- reset
-- every register zero
unfoldable pub zeroed : Registers
zeroed = words_at offsets (replicate (length offsets) 0)

-- octets 0 to 3 of an address, octet 0 the lowest
abbrev pub address_low : List ℕ → ℕ
address_low mac =
    from_le_bytes w32 (slice_index mac 0 ∷ slice_index mac 1 ∷ slice_index mac 2 ∷ slice_index mac 3 ∷ [])

-- octets 4 and 5 of an address
abbrev pub address_high : List ℕ → ℕ
address_high mac = from_le_bytes w16 (slice_index mac 4 ∷ slice_index mac 5 ∷ [])

-- all zero, but that the first receive address is the given one, and valid (AV, bit 31)
abbrev pub reset : List ℕ → Registers
reset mac =
    map.insert (map.insert zeroed (offset_of (Ral 0)) (address_low mac)) (offset_of (Rah 0))
    (address_high mac + 0x8000_0000)

-- the other registers that do not start as zero in the second profile, and what they start as
abbrev pub start_values : List (Reg × ℕ)
start_values =
    (Ctrl, 0x0014_0240) ∷ (Vet, 0x0000_8100) ∷ (Ledctl, 0x0000_0602) ∷ (Manc, 0x0022_2300) ∷ (Pba, 0x0010_0030) ∷ []

-- numbers put into registers, one after another
abbrev pub put_all : Registers → List (Reg × ℕ) → Registers
put_all m [] = m
put_all m (p ∷ ps) = put_all (map.insert m (offset_of p.0) p.1) ps

-- at power on
abbrev pub at_power_on : Profile → List ℕ → Registers
at_power_on Table mac = reset mac
at_power_on Adapter mac = put_all (reset mac) start_values

-- after a reset of the given registers: as at power on, but that in the second profile PBA keeps what it held
abbrev pub after_reset : Profile → Registers → List ℕ → Registers
after_reset Table m mac = at_power_on Table mac
after_reset Adapter m mac = map.insert (at_power_on Adapter mac) (offset_of Pba) (at m (offset_of Pba))

-- the number that a list has for an offset
abbrev pub value_in : List (Reg × ℕ) → ℕ → ℕ → ℕ
value_in [] o otherwise = otherwise
value_in (p ∷ ps) o otherwise = value_in ps o (if offset_of p.0 == o then p.1 else otherwise)

-- what power on leaves at an offset that is not the first receive address's
abbrev pub start_at : Profile → ℕ → ℕ
start_at Table o = 0
start_at Adapter o = value_in start_values o 0

-- and a reset
abbrev pub left_at : Profile → Registers → ℕ → ℕ
left_at Table m o = 0
left_at Adapter m o = if offset_of Pba == o then at m o else start_at Adapter o

-- ---- what takes a write back
-- what the word at an offset was
pub record OldWord : Type 0 where
  pub at : ℕ
  pub old : ℕ

-- the register is there
abbrev pub Fits : Registers → OldWord → Type 0
Fits m w = IsTrue (map.contains_key m w.at)

-- the register holds what it held
abbrev pub undo : Registers → OldWord → Registers
undo m w = map.insert m w.at w.old

-- what it puts back at an offset; none where it is the word of another one
abbrev pub old_at : OldWord → ℕ → Option ℕ
old_at w o = if w.at == o then Some w.old else None

-- the word takes the change from the old registers to the new ones back
pub record Reverses (old new : Registers) (w : OldWord) : Type 0 where
  pub fits : Fits new w
  pub restores : undo new w ≡ old
