-- A machine as octets, and when a machine is made of octets.
use Rattle.std.specs.Prelude.{◌≡◌, ◌⊎◌, ◌≤◌, ℕ, List, length, Option, Some, None, Result, Ok, Err}
use Rattle.em_journal.specs.View.{opening}
use Rattle.em_stored.specs.Stored.{stored}
use Rattle.em_stored.specs.Tests.{fault_of}
use Rattle.em_stored.specs.declared.refusal.StoredRefusal.{StoredRefusal}
use Rattle.em_stored.specs.declared.refusal.StoredRefusal.TheVariants as fault
use Rattle.em_c.specs.declared.refused.Refused.{Refused}
use Rattle.em_c.specs.declared.refused.Refused.TheVariants.{HasMachine, Memory, NoMachine}
use Rattle.em_c.specs.declared.refused.Refused.TheVariants.{StoredMagic, StoredVersion, StoredLength, StoredSum, StoredValue}
use Rattle.em_c.specs.declared.tagged.Tagged.{Tagged}
use Rattle.em_c.specs.Making.{beginning}
use Rattle.em_c.specs.Refused.{number_of}
use Rattle.em_c.specs.Tagged.{present_of}

-- ---- storing

-- a machine as em_stored writes it down, with how many of its frames were handed over
abbrev pub octets_of : Tagged → List ℕ
octets_of t = stored t.handed t.traced.view.budget (present_of t)

-- that of the machine that is held; the host may have no memory for it
abbrev pub Stores : Option Tagged → Result (List ℕ) Refused → Type 0
Stores None outcome = outcome ≡ Err NoMachine
Stores (Some t) outcome = (outcome ≡ Ok (octets_of t)) ⊎ (outcome ≡ Err Memory)

-- ---- loading

-- why em_stored makes no machine
abbrev pub of_fault : StoredRefusal → Refused
of_fault fault.Magic = StoredMagic
of_fault fault.Version = StoredVersion
of_fault fault.Length = StoredLength
of_fault fault.Sum = StoredSum
of_fault fault.Value = StoredValue
of_fault fault.Memory = Memory

-- a machine that would be stored as these octets, has performed nothing, and sent each frame that was handed over
pub record IsLoadedOf (octets : List ℕ) (t : Tagged) : Type 0 where
  pub spelled : octets ≡ octets_of t
  pub begins : t ≡ beginning (opening t.traced.view.budget (present_of t)) t.handed
  pub sent : t.handed ≤ length (present_of t).wire

-- why none is made of octets, by what is wrong with them before they are read, if something is
abbrev pub IsWhyNone : Option StoredRefusal → Refused → Type 0
IsWhyNone (Some fault) refused = refused ≡ of_fault fault
IsWhyNone None refused = (refused ≡ StoredValue) ⊎ (refused ≡ Memory)

-- a machine is held that octets are of, with which nothing is wrong; or the number of the reason is given, and none is held
abbrev pub IsLoaded : List ℕ → ℕ → Option Tagged → Type 0
IsLoaded octets code (Some t) = (code ≡ 0) × IsLoadedOf octets t × (fault_of octets ≡ None)
IsLoaded octets code None = (refused : Refused) × (code ≡ number_of refused) × IsWhyNone (fault_of octets) refused

-- a handle that holds a machine keeps it
abbrev pub Loads : Option Tagged → List ℕ → ℕ → Option Tagged → Type 0
Loads (Some t) octets code after = (code ≡ number_of HasMachine) × (after ≡ Some t)
Loads None octets code after = IsLoaded octets code after
