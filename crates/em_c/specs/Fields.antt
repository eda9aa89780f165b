-- The bits and fields of the registers, of either profile, and a register's value in words.
use Rattle.std.specs.Prelude.{◌≡◌, ℕ, ◌++◌, nat_lt, if◌then◌else◌, List, [], length, drop, replicate, Option, Some}
use Rattle.std.specs.Prelude.{None, Result, Err}
use Rattle.std.specs.List.{slice_get}
use Rattle.em_regs.specs.declared.reg.Reg.{Reg}
use Rattle.em_regs.specs.declared.profile.Profile.TheVariants.{Adapter}
use Rattle.em_regs.specs.Table.{reg_of}
use Rattle.em_names.specs.Bits.{Row, register_text, table_of}
use Rattle.em_c.specs.declared.fields.EmField.{EmField}
use Rattle.em_c.specs.declared.refused.Refused.{Refused}
use Rattle.em_c.specs.declared.refused.Refused.TheVariants.{NoRegister}
use Rattle.em_c.specs.Line.{IsTold}

-- where no name stands
abbrev pub no_name : List ℕ
no_name = replicate 16 0

-- a name, and at least one zero behind it; a longer one has no room, and no struct holds that
abbrev pub name_in : List ℕ → List ℕ
name_in name = if nat_lt (length name) 16 then name ++ drop (length name) no_name else []

-- a row of a register's table; behind the last one nothing
abbrev pub field_told : Option Row → EmField
field_told None = record { mask = 0; lowest = 0; name = no_name }
field_told (Some row) = record { mask = row.mask; lowest = row.lowest; name = name_in row.name }

abbrev pub TellsField : Option Reg → ℕ → Result EmField Refused → Type 0
TellsField None k outcome = outcome ≡ Err NoRegister
TellsField (Some reg) k outcome = IsTold outcome (field_told (slice_get (table_of reg) k))

-- of the register at an offset
abbrev pub FieldAt : ℕ → ℕ → Result EmField Refused → Type 0
FieldAt offset k outcome = TellsField (reg_of Adapter offset) k outcome

-- ---- the register's name, a value, and what the value's bits and fields are called

abbrev pub TellsValue : Option Reg → ℕ → Result (List ℕ) Refused → Type 0
TellsValue None value outcome = outcome ≡ Err NoRegister
TellsValue (Some reg) value outcome = IsTold outcome (register_text reg value)

abbrev pub ValueAt : ℕ → ℕ → Result (List ℕ) Refused → Type 0
ValueAt offset value outcome = TellsValue (reg_of Adapter offset) value outcome
