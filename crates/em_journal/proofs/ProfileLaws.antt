-- A register that each profile has.
use Rattle.std.proofs.Common.{◌≡◌, true, IsTrue, refl}
use Rattle.em_regs.specs.declared.profile.Profile.{Profile}
use Rattle.em_regs.specs.declared.profile.Profile.TheVariants.{Adapter, Table}
use Rattle.em_regs.specs.declared.reg.Reg.{Reg}
use Rattle.em_regs.specs.Table.{IsRegOf, is_in, row_of}

in_other : (since p : Profile) → is_in since Table ≡ true → is_in since p ≡ true
in_other Table p h = refl
in_other Adapter p h = cc

pub in_each : (reg : Reg) (p : Profile) → IsRegOf Table reg → IsRegOf p reg
in_each reg p is = (is.0, in_other (row_of reg).since p is.1)
