-- The warnings of the newest event, as C sees them.
use Rattle.std.specs.Prelude.{◌≡◌, ℕ, ◌+◌, ◌^◌, ◌==◌, nat_lt, if◌then◌else◌, List, [], ◌∷◌, replicate}
use Rattle.std.specs.Prelude.{Option, Some, None, Result, Ok, Err, slice_get, slice_set}
use Rattle.em_regs.specs.declared.profile.Profile.TheVariants.{Adapter}
use Rattle.em_regs.specs.Table.{offset_of, reg_of as register_of}
use Rattle.em_regs.specs.declared.reg.Reg.{Reg}
use Rattle.em_regs.specs.declared.reg.Reg.TheVariants as reg
use Rattle.em_journal.specs.View.{View}
use Rattle.em_trail.specs.declared.note.Note.{Note}
use Rattle.em_trail.specs.declared.note.Kind.{Kind}
use Rattle.em_trail.specs.declared.note.Kind.TheVariants as kind
use Rattle.em_inspect.specs.declared.extent.Extent.{Extent}
use Rattle.em_warnings.specs.Owned.{written_while_owned}
use Rattle.em_warnings.specs.Reads.{read_again}
use Rattle.em_warnings.specs.Rules.{alone, warnings_of}
use Rattle.em_warnings.specs.Said.{warning_text}
use Rattle.em_warnings.specs.Warnings.{there}
use Rattle.em_warnings.specs.declared.warning.Warning.{Warning}
use Rattle.em_warnings.specs.declared.warning.Warning.TheVariants as warning
use Rattle.em_c.specs.declared.refused.Refused.{Refused}
use Rattle.em_c.specs.declared.refused.Refused.TheVariants.{NoMachine}
use Rattle.em_c.specs.declared.tagged.Tagged.{Tagged}
use Rattle.em_c.specs.declared.warning.EmWarning.{EmWarning}
use Rattle.em_c.specs.Told.{address_told}
use Rattle.em_c.specs.Line.{IsTold, line_of, no_line, without_end}

-- ---- which there are: of a write of a register, of one of guest memory, and of a read of ICR that gave 0

abbrev pub written : View → Option Reg → ℕ → List (Option Warning)
written v None value = alone None
written v (Some reg) value = warnings_of v reg value

abbrev pub read_0 : View → Option Reg → List (Option Warning)
read_0 v (Some reg.Icr) = alone (read_again v)
read_0 v _ = alone None

-- the register at an offset of 32 bits
abbrev pub reg_of : ℕ → Option Reg
reg_of at = if nat_lt at (2 ^ 32) then register_of Adapter at else None

abbrev pub found_as : View → Kind → ℕ → ℕ → List (Option Warning)
found_as v kind.Write at value = written v (reg_of at) value
found_as v kind.Read at value = if value == 0 then read_0 v (reg_of at) else alone None
found_as v kind.Poke at value = alone (written_while_owned v.present (record { at = at; size = value }))
found_as v _ at value = alone None

-- by the note of the newest event
abbrev pub found_by : View → Option Note → List (Option Warning)
found_by v None = alone None
found_by v (Some note) = found_as v note.kind note.at note.value

abbrev pub found_in : Tagged → List (Option Warning)
found_in t = found_by t.traced.view (slice_get t.traced.notes 0)

-- ---- the number of the rule, and its numbers

abbrev pub blank : EmWarning
blank = record {
  address = 0;
  rule = 0;
  offset = 0;
  index = 0;
  count = 0;
  kept = 0;
  written = 0;
  causes = 0;
  text = no_line;
}

abbrev pub rule_of : Warning → ℕ
rule_of (warning.BitsDropped reg kept written) = 1
rule_of (warning.TailPastRing tail index count) = 2
rule_of (warning.EnabledBeforeRing control length) = 3
rule_of (warning.DescriptorUnwritten tail index at) = 4
rule_of (warning.StatusLeft tail index at) = 5
rule_of (warning.InterruptsBeforeRings causes length) = 6
rule_of (warning.ReadAgain causes) = 7
rule_of (warning.RingOutsideMemory tail at) = 8
rule_of (warning.BuffersOverlap tail index at) = 9
rule_of (warning.TailPastHead tail index count) = 10
rule_of (warning.HeadWhileEnabled head control) = 11
rule_of (warning.WrittenWhileOwned head index at) = 12

abbrev pub numbers_of : Warning → EmWarning
numbers_of (warning.BitsDropped reg kept written) =
    record blank { offset = offset_of reg; kept = kept; written = written }
numbers_of (warning.TailPastRing tail index count) =
    record blank { offset = offset_of tail; index = index; count = count }
numbers_of (warning.EnabledBeforeRing control length) = record blank { offset = offset_of control }
numbers_of (warning.DescriptorUnwritten tail index at) =
    record blank { offset = offset_of tail; index = index; address = address_told at }
numbers_of (warning.StatusLeft tail index at) =
    record blank { offset = offset_of tail; index = index; address = address_told at }
numbers_of (warning.InterruptsBeforeRings causes length) =
    record blank { offset = offset_of length; causes = causes }
numbers_of (warning.ReadAgain causes) = record blank { offset = offset_of reg.Icr; causes = causes }
numbers_of (warning.RingOutsideMemory tail at) = record blank { offset = offset_of tail; address = address_told at }
numbers_of (warning.BuffersOverlap tail index at) =
    record blank { offset = offset_of tail; index = index; address = address_told at }
numbers_of (warning.TailPastHead tail index count) =
    record blank { offset = offset_of tail; index = index; count = count }
numbers_of (warning.HeadWhileEnabled head control) = record blank { offset = offset_of head }
numbers_of (warning.WrittenWhileOwned head index at) =
    record blank { offset = offset_of head; index = index; address = address_told at }

abbrev pub warning_told : Warning → EmWarning
warning_told w = record (numbers_of w) { rule = rule_of w; text = line_of (without_end (warning_text w)) }

-- ---- the list of those that there are

-- they are put at a place, and those behind the first at the places behind it
abbrev pub laid : List (Option Warning) → ℕ → List EmWarning → List EmWarning
laid [] at room = room
laid (None ∷ found) at room = laid found at room
laid (Some w ∷ found) at room = laid found (at + 1) (slice_set room at (warning_told w))

abbrev pub none_told : List EmWarning
none_told = replicate 10 blank

-- the list, and how many
abbrev pub listed : List (Option Warning) → List EmWarning × ℕ
listed found = (laid found 0 none_told, there found)

-- ---- what is told

abbrev pub HeldWarnings : Option Tagged → Result (List EmWarning × ℕ) Refused → Type 0
HeldWarnings None outcome = outcome ≡ Err NoMachine
HeldWarnings (Some t) outcome = IsTold outcome (listed (found_in t))

abbrev pub list_in : Result (List EmWarning × ℕ) Refused → Result (List EmWarning) Refused
list_in (Ok told) = Ok told.0
list_in (Err refused) = Err refused

abbrev pub count_in : Result (List EmWarning × ℕ) Refused → Result ℕ Refused
count_in (Ok told) = Ok told.1
count_in (Err refused) = Err refused
