-- A log, line by line.
use Rattle.std.specs.Prelude.{ℕ, ◌<◌, ◌-◌, ◌%◌, Bool, true, false, ◌&&◌, nat_le, nat_lt, if◌then◌else◌, List}
use Rattle.std.specs.Prelude.{Option, Some, None}
use Rattle.em_log.specs.declared.told.Access.{Access as AccessOf}
use Rattle.em_log.specs.declared.told.Told.{Told}
use Rattle.em_log.specs.declared.told.Told.TheVariants as told
use Rattle.em_log.specs.declared.log.Form.{Form}
use Rattle.em_log.specs.declared.log.Form.TheVariants.{Qemu, Mmiotrace, Plain}
use Rattle.em_log.specs.declared.log.Entry.{Entry}
use Rattle.em_log.specs.declared.log.Entry.TheVariants.{Access, Elsewhere, Memory, Nothing, Fault}
use Rattle.em_log.specs.Qemu.{qemu_told}
use Rattle.em_log.specs.Mmiotrace.{mmiotrace_told, space}
use Rattle.em_log.specs.Plain.{plain_told}

-- what a line tells in a form
abbrev pub told_by : Form → List ℕ → List ℕ → Told
told_by Qemu region line = qemu_told region line
told_by Mmiotrace region line = mmiotrace_told line
told_by Plain region line = plain_told line

-- ---- the form

-- a line tells something
abbrev pub fits : Told → Bool
fits (told.Access access) = true
fits told.Elsewhere = true
fits (told.Base base) = true
fits told.Memory = true
fits told.Nothing = false
fits told.Fault = false

-- the form in which it does
abbrev pub form_of : List ℕ → List ℕ → Option Form
form_of region line =
    if fits (qemu_told region line) then Some Qemu else
    if fits (mmiotrace_told line) then Some Mmiotrace else
    if fits (plain_told line) then Some Plain else
    None

-- the first such line decides
abbrev pub form_after : Option Form → List ℕ → List ℕ → Option Form
form_after (Some form) region line = Some form
form_after None region line = form_of region line

-- before that no line tells anything
abbrev pub told_in : Option Form → List ℕ → List ℕ → Told
told_in (Some form) region line = told_by form region line
told_in None region line = told.Nothing

-- ---- where the registers lie

-- QEMU has guest's addresses, and a driver prints offsets
abbrev pub base_by : Form → ℕ → Option ℕ
base_by Qemu address = Some (address - address % space)
base_by Mmiotrace address = None
base_by Plain address = Some 0

abbrev pub base_told : Form → Told → Option ℕ
base_told form (told.Access access) = base_by form access.address
base_told form told.Elsewhere = None
base_told form (told.Base base) = Some base
base_told form told.Memory = None
base_told form told.Nothing = None
base_told form told.Fault = None

-- the first line that tells it decides
abbrev pub base_after : Option ℕ → Option Form → Told → Option ℕ
base_after (Some base) form said = Some base
base_after None None said = None
base_after None (Some form) said = base_told form said

-- ---- what a line is

abbrev pub placed : Option ℕ → AccessOf → Entry
placed None access = Elsewhere
placed (Some base) access =
    if nat_le base access.address && nat_lt (access.address - base) space
    then Access (record {
      way = access.way;
      offset = access.address - base;
      width = access.width;
      value = access.value;
    })
    else Elsewhere

abbrev pub entry_of : Option ℕ → Told → Entry
entry_of base (told.Access access) = placed base access
entry_of base told.Elsewhere = Elsewhere
entry_of base (told.Base at) = Nothing
entry_of base told.Memory = Memory
entry_of base told.Nothing = Nothing
entry_of base told.Fault = Fault

-- an access is one of the adapter's registers
abbrev pub IsWithin : Entry → Type 0
IsWithin (Access access) = access.offset < space
IsWithin Elsewhere = Unit
IsWithin Memory = Unit
IsWithin Nothing = Unit
IsWithin Fault = Unit
