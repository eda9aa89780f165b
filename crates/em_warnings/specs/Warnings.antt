-- The warnings of an event.
use Rattle.std.specs.Prelude.{ℕ, suc, length, ◌==◌, if◌then◌else◌, Bool, true, false, List, [], ◌∷◌, Option, Some, None, Result, Ok}
use Rattle.std.specs.List.{flat_map}
use Rattle.em_regs.specs.declared.reg.Reg.{Reg}
use Rattle.em_regs.specs.declared.reg.Reg.TheVariants.{Icr}
use Rattle.em_step.specs.Event.{Event, pokes}
use Rattle.em_step.specs.declared.event.Answer.{Answer}
use Rattle.em_step.specs.declared.event.Answer.TheVariants as answer
use Rattle.em_step.specs.declared.refusal.Refusal.{Refusal}
use Rattle.em_expect.specs.Difference.{register_of}
use Rattle.em_journal.specs.View.{View}
use Rattle.em_warnings.specs.declared.warning.Warning.{Warning}
use Rattle.em_inspect.specs.declared.extent.Extent.{Extent}
use Rattle.em_warnings.specs.Owned.{written_while_owned}
use Rattle.em_warnings.specs.Reads.{read_again}
use Rattle.em_warnings.specs.Rules.{alone, warnings_of}
use Rattle.em_warnings.specs.Said.{warning_text}
use Rattle.em_warnings.specs.WriteLine.{written_by}

-- a line for a warning, if there is one
abbrev pub line_of : Option Warning → List ℕ
line_of None = []
line_of (Some warning) = warning_text warning

abbrev pub lines_of : List (Option Warning) → List ℕ
lines_of warnings = flat_map line_of warnings

-- how many are there
abbrev pub there : List (Option Warning) → ℕ
there [] = 0
there (None ∷ warnings) = there warnings
there (Some warning ∷ warnings) = suc (there warnings)

-- ---- what each rule says, if the rules are asked

-- of a write of a value to a register
abbrev pub of_write : View → Option (Reg × ℕ) → Option (List (Option Warning))
of_write v None = None
of_write v (Some write) = Some (warnings_of v write.0 write.1)

-- octets that were written to guest memory
abbrev pub extent_written : ℕ → List ℕ → Extent
extent_written at octets = record { at = at; size = length octets }

-- of an event that was done: a write of guest memory, of which one rule asks, or one of a register
abbrev pub of_done : View → Option Event → Option (List (Option Warning))
of_done v None = None
of_done v (Some (pokes at octets)) = Some (alone (written_while_owned v.present (extent_written at octets)))
of_done v (Some e) = of_write v (written_by e)

-- of a read of a register that gave 0: one rule asks about ICR
abbrev pub of_read : View → Option Reg → Option (List (Option Warning))
of_read v (Some Icr) = Some (alone (read_again v))
of_read v _ = None

-- of an event with its outcome, as it left the machine: a write that was performed, and a read that gave 0
abbrev pub found_of : View → Option Event → Option (Result Answer Refusal) → Option (List (Option Warning))
found_of v event (Some (Ok answer.Done)) = of_done v event
found_of v event (Some (Ok (answer.Value value))) = if value == 0 then of_read v (register_of event) else None
found_of v event _ = None

-- they are asked where it came to this
abbrev pub is_asked : Option (Result Answer Refusal) → Bool
is_asked (Some (Ok answer.Done)) = true
is_asked (Some (Ok (answer.Value value))) = value == 0
is_asked _ = false

-- ---- how many warnings these are, and a line for each

abbrev pub found_count : Option (List (Option Warning)) → ℕ
found_count None = 0
found_count (Some warnings) = there warnings

abbrev pub found_text : Option (List (Option Warning)) → List ℕ
found_text None = []
found_text (Some warnings) = lines_of warnings
