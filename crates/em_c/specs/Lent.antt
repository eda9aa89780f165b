-- The machine of a handle, lent: what is left behind the borrow is held then.
use Rattle.std.specs.Prelude.{◌≡◌, Result, Some}
use Rattle.std.specs.Borrow.{Lends, LendsSoOk, MutBor, Fml}
use Rattle.em_c.specs.declared.handle.EmMachine.{EmMachine}
use Rattle.em_c.specs.declared.refused.Refused.{Refused}
use Rattle.em_c.specs.declared.sealed.Sealed.{Sealed}
use Rattle.em_c.specs.contracts.handle.EmMachine.{the_row as handle_row}
use Rattle.em_c.specs.contracts.sealed.Sealed.{the_row as sealed_row}
use Rattle.em_c.specs.contracts.tagged.Tagged.{the_row as machine_row}

-- a seal with another machine at the same place
abbrev pub with_machine : Sealed → machine_row.Denot → Sealed
with_machine sealed machine = record sealed { held = Some machine }

abbrev pub LendsMachine : MutBor Sealed → MutBor machine_row.Denot → Fml
LendsMachine sealed lent = Lends sealed_row machine_row sealed lent (with_machine sealed.now)

-- where none is lent, what is held stays
abbrev pub LendsHeld : MutBor EmMachine → Result (MutBor machine_row.Denot) Refused → Fml
LendsHeld handle lent =
    LendsSoOk handle_row machine_row handle lent (λ n w. n.sealed.held ≡ Some w) (λ n. n.sealed.held ≡ handle.now.sealed.held)
