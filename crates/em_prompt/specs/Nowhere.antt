-- An access that finds no register, and is answered all the same.
use Rattle.std.specs.Prelude.{ℕ, Bool, ◌&&◌, if◌then◌else◌, List, [], ◌∷◌, is_none, is_some, length, nat_lt, Option, Some, None}
use Rattle.em_line.specs.Digits.{bare}
use Rattle.em_names.specs.Names.{name_of}
use Rattle.em_regs.specs.declared.profile.Profile.{Profile}
use Rattle.em_regs.specs.declared.reg.Reg.{Reg}
use Rattle.em_regs.specs.Table.{answers_at, reg_of}
use Rattle.em_prompt.specs.declared.nowhere.Nowhere.{Nowhere as Lent}
use Rattle.em_prompt.specs.Near.{is_near}
use Rattle.em_prompt.specs.Register.{named}
use Rattle.em_prompt.specs.Scripted.{is_access}
use Rattle.em_prompt.specs.Word.{hex_number_in}

-- where no register lies, and the digits that say so
pub record Nowhere : Type 0 where
  pub offset : ℕ
  pub word : List ℕ

abbrev pub plain : Lent → Nowhere
plain nowhere = record { offset = nowhere.offset; word = nowhere.word.now }

-- at the offset no register lies, and an access is answered
abbrev pub is_nowhere : Profile → ℕ → Bool
is_nowhere profile offset = answers_at profile offset && is_none (reg_of profile offset)

abbrev pub nowhere_number : Profile → List ℕ → Option ℕ → Option Nowhere
nowhere_number profile word None = None
nowhere_number profile word (Some offset) =
    if is_nowhere profile offset then Some (record { offset = offset; word = bare word }) else None

-- a word says so that names no register
abbrev pub nowhere_by : Profile → List ℕ → Option Nowhere
nowhere_by profile word = if is_some (named profile word) then None else nowhere_number profile word (hex_number_in word)

-- words say so that read or write a register
abbrev pub nowhere_said : Profile → List (List ℕ) → Option Nowhere
nowhere_said profile (command ∷ word ∷ words) = if is_access command then nowhere_by profile word else None
nowhere_said profile _ = None

-- a word of three letters or more is nearly the register's name
abbrev pub is_meant : List ℕ → Reg → Bool
is_meant word reg = nat_lt 2 (length word) && is_near word (name_of reg)
