-- Two states in which what a test looked at is the same.
use Rattle.std.specs.Prelude.{◌≡◌, ◌+◌, ◌<◌, ◌==◌, if◌then◌else◌, bit_and, ℕ, List, [], ◌∷◌}
use Rattle.em_mem.specs.Memory.{part}
use Rattle.em_regs.specs.declared.reg.Reg.{Reg}
use Rattle.em_regs.specs.declared.reg.Reg.TheVariants.{Ral, Rah}
use Rattle.em_regs.specs.Table.{mask_of}
use Rattle.em_step.specs.Access.{gives}
use Rattle.em_step.specs.State.{State}
use Rattle.em_reasons.specs.declared.look.Look.{Look}
use Rattle.em_reasons.specs.declared.look.Look.TheVariants.{Bits, Entries, Frames, Octets}

-- a read of the register gives the same
abbrev pub SameRegister : State → State → Reg → Type 0
SameRegister s t reg = gives t reg ≡ gives s reg

-- what these bits of a register are that gives v; where they are all that it keeps, v
abbrev pub bits_in : Reg → ℕ → ℕ → ℕ
bits_in reg mask v = if mask == mask_of reg then v else bit_and v mask

abbrev pub SameBits : State → State → Reg → ℕ → Type 0
SameBits s t reg mask = bits_in reg mask (gives t reg) ≡ bits_in reg mask (gives s reg)

-- an entry of the address filter is the same
abbrev pub SameEntry : State → State → ℕ → Type 0
SameEntry s t i = SameRegister s t (Ral i) × SameRegister s t (Rah i)

-- what was looked at is the same
abbrev pub SameLook : State → State → Look → Type 0
SameLook s t (Bits reg mask) = SameBits s t reg mask
SameLook s t Entries = (i : ℕ) → i < 16 → SameEntry s t i
SameLook s t Frames = t.fifo ≡ s.fifo
SameLook s t (Octets at first count) = part t.memory (at + first) count ≡ part s.memory (at + first) count

-- all of it
abbrev pub SameLooks : State → State → List Look → Type 0
SameLooks s t [] = Unit {0}
SameLooks s t (look ∷ looks) = SameLook s t look × SameLooks s t looks
