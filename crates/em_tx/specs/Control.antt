-- What a step of the transmit engine goes by.
use Rattle.std.specs.Prelude.{ℕ, ◌==◌, ◌||◌, nat_lt, Bool, false, List, if◌then◌else◌, set}
use Rattle.em_mem.specs.Memory.{part}
use Rattle.em_regs.specs.declared.profile.Profile.{Profile}
use Rattle.em_regs.specs.declared.profile.Profile.TheVariants.{Table, Adapter}
use Rattle.em_regs.specs.declared.setup.TxSetup.{TxSetup}
use Rattle.em_tx.specs.declared.control.TxControl.{TxControl}
use Rattle.em_tx.specs.Descriptor.{address}
use Rattle.em_tx.specs.Ring.{is_idle, place}

-- that of the first profile, in which the link halts nothing
abbrev pub of_setup : TxSetup → TxControl
of_setup q = record { setup = q; profile = Table; halted = false }

-- nothing is to be done: no descriptor is the adapter's, or nothing is sent
abbrev pub is_still : TxControl → Bool
is_still q = is_idle q.setup || q.halted

-- a descriptor with octets 8 and 9, its length, 0
abbrev pub without_octets : List ℕ → List ℕ
without_octets d = set (set d 8 0) 9 0

-- a descriptor as it is read: in the second profile one with the address 0 transfers nothing
unfoldable pub as_read : Profile → List ℕ → List ℕ
as_read Table d = d
as_read Adapter d = if address d == 0 then without_octets d else d

-- the first descriptor as it is read
abbrev pub first : TxControl → List ℕ → List ℕ
first q memory = as_read q.profile (part memory (place q.setup) 16)

-- one descriptor has more octets than the second profile lets it have
abbrev pub is_over : Profile → ℕ → Bool
is_over Table n = false
is_over Adapter n = nat_lt 16288 n
