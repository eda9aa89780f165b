-- The profiles by their numbers.
use Rattle.std.specs.Prelude.{ℕ, ◌==◌, if◌then◌else◌, Option, Some, None, Result, Ok}
use Rattle.em_regs.specs.declared.profile.Profile.{Profile}
use Rattle.em_regs.specs.declared.profile.Profile.TheVariants.{Table, Adapter}
use Rattle.em_journal.specs.View.{View}
use Rattle.em_c.specs.declared.refused.Refused.{Refused}

abbrev pub number_in : Profile → ℕ
number_in Table = 0
number_in Adapter = 1

-- no other number is a profile's
abbrev pub profile_of : ℕ → Option Profile
profile_of number = if number == 0 then Some Table else if number == 1 then Some Adapter else None

-- of a machine
abbrev pub profile_in : View → Result ℕ Refused
profile_in v = Ok (number_in v.present.profile)
