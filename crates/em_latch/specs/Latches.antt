-- What an access of a latched register gives and does.
use Rattle.std.specs.Prelude.{
  ◌≡◌,
  ◌≢◌,
  ℕ,
  ◌+◌,
  ◌-◌,
  ◌%◌,
  ◌^◌,
  ◌==◌,
  if◌then◌else◌,
  Bool,
  true,
  false,
  List,
  [],
  ◌∷◌,
  IsTrue,
  bit_and,
  bit_or,
  length,
  replicate,
}
use Rattle.std.specs.FinMap as map
use Rattle.em_regs.specs.declared.reg.Reg.{Reg}
use Rattle.em_regs.specs.declared.reg.Reg.TheVariants.{Icr, Ics, Ims, Imc, Gorcl, Gorch, Gotcl, Gotch}
use Rattle.em_regs.specs.declared.reg.Reg.TheVariants.{Torl, Torh, Totl, Toth}
use Rattle.em_regs.specs.declared.table.Kind.{Kind}
use Rattle.em_regs.specs.declared.table.Kind.TheVariants.{Interrupt, Counter}
use Rattle.em_regs.specs.Table.{row_of, offset_of, is_counter}
use Rattle.em_regs.specs.RegFile.{at}
use Rattle.em_regs.specs.Storage.{Registers, words_at}
use Rattle.em_latch.specs.Storage.{offsets}

-- nothing set, nothing let through, nothing counted
unfoldable pub fresh : Registers
fresh = words_at offsets (replicate (length offsets) 0)

abbrev pub is_latched_kind : Kind → Bool
is_latched_kind Interrupt = true
is_latched_kind Counter = true
is_latched_kind kind = false

-- the interrupt registers and the counters
abbrev pub is_latched : Reg → Bool
is_latched reg = is_latched_kind (row_of reg).kind

abbrev pub IsLatched : Reg → Type 0
IsLatched reg = IsTrue (is_latched reg)

-- a latched register with a word of its own: ICS and IMC work on those of ICR and IMS
abbrev pub is_word : Reg → Bool
is_word Icr = true
is_word Ims = true
is_word reg = is_counter reg

abbrev pub IsWord : Reg → Type 0
IsWord reg = IsTrue (is_word reg)

-- the causes that are set
abbrev pub causes : Registers → ℕ
causes m = at m (offset_of Icr)

-- the causes that are let through to the line
abbrev pub mask : Registers → ℕ
mask m = at m (offset_of Ims)

-- the bits of n that are clear in v
abbrev pub without : ℕ → ℕ → ℕ
without n v = bit_and n (0xFFFF_FFFF - v)

-- the bits of v that name a cause: bits 16 to 0
abbrev pub named_causes : ℕ → ℕ
named_causes v = bit_and v 0x0001_FFFF

-- what a read gives
abbrev pub gives : Registers → Reg → ℕ
gives m Ics = 0
gives m Imc = 0
gives m reg = at m (offset_of reg)

-- both halves of a pair written
abbrev pub after_pair_write : Registers → Reg → Reg → ℕ → ℕ → Registers
after_pair_write m low high v w = map.insert (map.insert m (offset_of low) v) (offset_of high) w

-- both halves of a pair cleared
abbrev pub after_pair_clear : Registers → Reg → Reg → Registers
after_pair_clear m low high = after_pair_write m low high 0 0

-- a read of the causes or a counter clears it; of a pair, the read of the high half clears both
abbrev pub after_read : Registers → Reg → Registers
after_read m Ics = m
after_read m Ims = m
after_read m Imc = m
after_read m Gorcl = m
after_read m Gotcl = m
after_read m Torl = m
after_read m Totl = m
after_read m Gorch = after_pair_clear m Gorcl Gorch
after_read m Gotch = after_pair_clear m Gotcl Gotch
after_read m Torh = after_pair_clear m Torl Torh
after_read m Toth = after_pair_clear m Totl Toth
after_read m reg = map.insert m (offset_of reg) 0

-- causes that are set beside those that were
abbrev pub after_raise : Registers → ℕ → Registers
after_raise m v = map.insert m (offset_of Icr) (bit_or (causes m) v)

-- ICR and IMC clear the bits that are 1 in v, ICS and IMS set those of them that name a cause; counters stay
abbrev pub after_write : Registers → Reg → ℕ → Registers
after_write m Icr v = map.insert m (offset_of Icr) (without (causes m) v)
after_write m Ics v = after_raise m (named_causes v)
after_write m Ims v = map.insert m (offset_of Ims) (bit_or (mask m) (named_causes v))
after_write m Imc v = map.insert m (offset_of Ims) (without (mask m) v)
after_write m reg v = m

-- the interrupt line: some cause is set that the mask lets through
abbrev pub IsAsserted : Registers → Type 0
IsAsserted m = bit_and (causes m) (mask m) ≢ 0

-- ---- what takes changes back: growths, the newest first
-- by how much the word at an offset grew, modulo 2^32
pub record Growth : Type 0 where
  pub at : ℕ
  pub by : ℕ

-- a word that grows by some number, and what it was where it is v now
abbrev pub grown : ℕ → ℕ → ℕ
grown v by = (v + by) % 2 ^ 32

abbrev pub shrunk : ℕ → ℕ → ℕ
shrunk v by = (v + (2 ^ 32 - by)) % 2 ^ 32

-- the word is there
abbrev pub IsThere : Registers → Growth → Type 0
IsThere m g = IsTrue (map.contains_key m g.at)

-- the word holds what it held
abbrev pub shrink : Registers → Growth → Registers
shrink m g = map.insert m g.at (shrunk (at m g.at) g.by)

-- each word is there
abbrev pub Fits : Registers → List Growth → Type 0
Fits m [] = Unit {0}
Fits m (g ∷ gs) = IsThere m g × Fits (shrink m g) gs

-- the words hold what they held
abbrev pub undo : Registers → List Growth → Registers
undo m [] = m
undo m (g ∷ gs) = undo (shrink m g) gs

-- what the word at an offset was that is v now: all its growths count
abbrev pub before_at : List Growth → ℕ → ℕ → ℕ
before_at [] o v = v
before_at (g ∷ gs) o v = before_at gs o (if g.at == o then shrunk v g.by else v)

-- the growths take the changes from the old registers to the new ones back
pub record Reverses (old new : Registers) (gs : List Growth) : Type 0 where
  pub fits : Fits new gs
  pub restores : undo new gs ≡ old
