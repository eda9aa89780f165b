-- How far a word is from a register's name.
use Rattle.std.specs.Prelude.{ℕ, List, [], ◌∷◌, length, nat_eq}
use Rattle.strsim.specs.Edits.{levenshtein_row}
use Rattle.em_regs.specs.declared.reg.Reg.{Reg}
use Rattle.em_regs.specs.Table.{IsReg}
use Rattle.em_names.specs.declared.near.Near.{Near}
use Rattle.em_names.specs.Names.{name_of}

-- how many letters are put in, left out or changed
abbrev pub distance_of : List ℕ → Reg → ℕ
distance_of letters reg = levenshtein_row nat_eq letters (name_of reg) (length (name_of reg))

-- each is a register of the table
abbrev pub AreRegs : List Reg → Type 0
AreRegs [] = Unit {0}
AreRegs (reg ∷ regs) = IsReg reg × AreRegs regs

abbrev pub AreNear : Near → Type 0
AreNear near = IsReg near.first.1 × IsReg near.second.1 × IsReg near.third.1
