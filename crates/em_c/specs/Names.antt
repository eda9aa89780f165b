-- The names of the registers by their offsets, and back: of either profile, since the second has all of the first.
use Rattle.std.specs.Prelude.{◌≡◌, ◌⊎◌, ℕ, List, Option, Some, None, Result, Ok, Err}
use Rattle.em_regs.specs.declared.reg.Reg.{Reg}
use Rattle.em_regs.specs.declared.profile.Profile.TheVariants.{Adapter}
use Rattle.em_regs.specs.Table.{IsRegOf, offset_of, reg_of}
use Rattle.em_names.specs.Names.{name_of, IsNamed}
use Rattle.em_c.specs.declared.refused.Refused.{Refused}
use Rattle.em_c.specs.declared.refused.Refused.TheVariants.{NoRegister, NoName}
use Rattle.em_c.specs.Refused.{number_of}

abbrev pub name_or_none : Option Reg → Result (List ℕ) Refused
name_or_none None = Err NoRegister
name_or_none (Some reg) = Ok (name_of reg)

-- of the register at an offset
abbrev pub name_at : ℕ → Result (List ℕ) Refused
name_at offset = name_or_none (reg_of Adapter offset)

-- the offset of a register that has the word as its name, or none has
abbrev pub Finds : List ℕ → ℕ → ℕ → ℕ → Type 0
Finds word old code new =
    ((reg : Reg) × IsRegOf Adapter reg × IsNamed word reg × (code ≡ 0) × (new ≡ offset_of reg))
    ⊎ ((code ≡ number_of NoName) × (new ≡ old))
