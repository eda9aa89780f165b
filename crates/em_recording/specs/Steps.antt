-- What the steps of registers, octets and other things say, read before an event or after it.
use Rattle.std.specs.Prelude.{ℕ, ◌+◌, ◌-◌, Bool, ◌&&◌, nat_eq, nat_le, nat_lt, if◌then◌else◌, List, [], ◌∷◌}
use Rattle.std.specs.Prelude.{Option, Some, None, slice_index}
use Rattle.em_regs.specs.Table.{offset_of}
use Rattle.em_watch.specs.declared.octets.MemoryChange.{MemoryChange}
use Rattle.em_watch.specs.declared.range.MemoryRange.{MemoryRange}
use Rattle.em_recording.specs.declared.recorded.Step.{Step}
use Rattle.em_recording.specs.declared.recorded.RegisterStep.{RegisterStep}

-- ---- of the value at an offset
-- that of the step whose register lies there, read before or after; where there is none, another one
abbrev pub value_at : (RegisterStep → ℕ) → List RegisterStep → ℕ → Option ℕ → Option ℕ
value_at read [] o other = other
value_at read (step ∷ steps) o other =
    if nat_eq (offset_of step.reg) o then Some (read step) else value_at read steps o other

-- ---- of the octet at an address
-- the address lies in the range
abbrev pub has_address : MemoryRange → ℕ → Bool
has_address range a = nat_le range.addr a && nat_lt a (range.addr + range.len)

-- that of the step whose range has it, read before or after; where there is none, another one
abbrev pub octet_at : (MemoryChange → List ℕ) → List MemoryChange → ℕ → Option ℕ → Option ℕ
octet_at read [] a other = other
octet_at read (step ∷ steps) a other =
    if has_address step.range a then Some (slice_index (read step) (a - step.range.addr))
    else octet_at read steps a other

-- ---- of one thing
abbrev pub step_after : {T : Type 0} → Option (Step T) → T → T
step_after None was = was
step_after (Some step) was = step.after

abbrev pub step_before : {T : Type 0} → Option (Step T) → T → T
step_before None is = is
step_before (Some step) is = step.before
