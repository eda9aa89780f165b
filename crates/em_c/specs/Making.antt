-- What machines are made of, and when none is made.
use Rattle.std.specs.Prelude.{◌≡◌, ℕ, List, Option, Some, None}
use Rattle.em_mem.specs.Memory.{IsMemoryRange, IsMemorySize}
use Rattle.em_regs.specs.declared.profile.Profile.{Profile}
use Rattle.em_regs.specs.declared.profile.Profile.TheVariants.{Table}
use Rattle.em_step.specs.Cells.{fresh_as, shows}
use Rattle.em_journal.specs.Budget.{IsBudget}
use Rattle.em_journal.specs.View.{View, opening}
use Rattle.em_trail.specs.Trail.{starting}
use Rattle.em_c.specs.declared.making.Place.{Place}
use Rattle.em_c.specs.declared.making.Place.TheVariants.{First, From, As}
use Rattle.em_c.specs.declared.refused.Refused.{Refused}
use Rattle.em_c.specs.declared.refused.Refused.TheVariants.{Size, Budget, Memory, HasMachine, NoProfile}
use Rattle.em_c.specs.declared.tagged.Tagged.{Tagged}
use Rattle.em_c.specs.Refused.{number_of}

-- ---- the profile, and where memory lies

abbrev pub profile_of : Place → Profile
profile_of (First size) = Table
profile_of (From base size) = Table
profile_of (As profile base size) = profile

abbrev pub base_of : Place → ℕ
base_of (First size) = 0
base_of (From base size) = base
base_of (As profile base size) = base

abbrev pub octets_of : Place → ℕ
octets_of (First size) = size
octets_of (From base size) = size
octets_of (As profile base size) = size

abbrev pub CanLie : Place → Type 0
CanLie (First size) = IsMemorySize size
CanLie (From base size) = IsMemoryRange base size
CanLie (As profile base size) = IsMemoryRange base size

-- ---- a machine

-- that has performed nothing: with the tag 0, and so many of its frames handed over
abbrev pub beginning : View → ℕ → Tagged
beginning v handed = record { traced = starting v; tag = 0; handed = handed }

-- of its profile, after a reset, over a memory of zeros and these words in the EEPROM, with the link down, nothing to take
-- back, and no frame handed over
abbrev pub new_machine : Place → ℕ → List ℕ → Tagged
new_machine place budget words =
    beginning (opening budget (shows (fresh_as (profile_of place) (base_of place) (octets_of place) words))) 0

-- memory that can not lie there is named first, then the budget, and want of memory where neither refuses; nothing else
-- refuses
abbrev pub IsRefusedAs : Place → ℕ → Refused → Type 0
IsRefusedAs place budget Size = CanLie place → ⊥
IsRefusedAs place budget Budget = CanLie place × (IsBudget budget → ⊥)
IsRefusedAs place budget Memory = CanLie place × IsBudget budget
IsRefusedAs place budget refused = ⊥

-- a new machine is held, which can be of these sizes; or the number of the reason is given, and none is held
abbrev pub IsMade : Place → ℕ → List ℕ → ℕ → Option Tagged → Type 0
IsMade place budget words code (Some t) =
    (code ≡ 0) × (t ≡ new_machine place budget words) × CanLie place × IsBudget budget
IsMade place budget words code None =
    (refused : Refused) × (code ≡ number_of refused) × IsRefusedAs place budget refused

-- a handle that holds a machine keeps it
abbrev pub Makes : Option Tagged → Place → ℕ → List ℕ → ℕ → Option Tagged → Type 0
Makes (Some t) place budget words code after = (code ≡ number_of HasMachine) × (after ≡ Some t)
Makes None place budget words code after = IsMade place budget words code after

-- the same of a profile; where no profile has the number, that is named, unless the handle holds a machine
abbrev pub MakesAs : Option Tagged → Option Profile → ℕ → ℕ → ℕ → List ℕ → ℕ → Option Tagged → Type 0
MakesAs held (Some profile) base memory budget words code after =
    Makes held (As profile base memory) budget words code after
MakesAs (Some t) None base memory budget words code after = (code ≡ number_of HasMachine) × (after ≡ Some t)
MakesAs None None base memory budget words code after = (code ≡ number_of NoProfile) × (after ≡ None)
