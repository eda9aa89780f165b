-- What a step of the receive engine goes by.
use Rattle.std.specs.Prelude.{ℕ, ◌==◌, Bool, false}
use Rattle.em_regs.specs.declared.profile.Profile.{Profile}
use Rattle.em_regs.specs.declared.profile.Profile.TheVariants.{Table, Adapter}
use Rattle.em_regs.specs.declared.setup.RxSetup.{RxSetup}
use Rattle.em_rx.specs.declared.control.RxControl.{RxControl}

-- that of the first profile, which tells of no frame how it came past the filters
abbrev pub of_setup : RxSetup → RxControl
of_setup q = record { setup = q; profile = Table; inexact = false }

-- no octet goes into the buffer of a descriptor that has this address: in the second profile, of one that has 0
unfoldable pub is_null_at : Profile → ℕ → Bool
is_null_at Table a = false
is_null_at Adapter a = a == 0
