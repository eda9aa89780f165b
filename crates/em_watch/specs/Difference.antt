-- What one event did to a watched thing, and which registers it changed. So many steps back lead to just before it.
use Rattle.std.specs.Prelude.{◌≡◌, ◌≢◌, ℕ, ◌-◌, ◌<◌, ◌≤◌, Some, slice_get}
use Rattle.em_regs.specs.declared.reg.Reg.{Reg}
use Rattle.em_regs.specs.Table.{IsReg, offset_of}
use Rattle.em_step.specs.Before.{register_before}
use Rattle.em_step.specs.Undo.{Undo}
use Rattle.em_journal.specs.View.{View}
use Rattle.em_watch.specs.Change.{SeesSame}
use Rattle.em_watch.specs.Watching.{sights}
use Rattle.em_watch.specs.declared.difference.Difference.{Difference}
use Rattle.em_watch.specs.declared.registers.RegisterChange.{RegisterChange}
use Rattle.em_watch.specs.declared.watch.Watch.{Watch}
use Rattle.em_watch.specs.declared.watch.Watch.TheVariants.{Register}

-- before the event this was seen, after it that, and they are not the same
pub record IsDifference (w : Watch) (v : View) (back : ℕ) (d : Difference) : Type 0 where
  pub before : slice_get (sights w v) back ≡ Some d.before
  pub after : slice_get (sights w v) (back - 1) ≡ Some d.after
  pub differ : d.before ≢ d.after

-- before and after the event the same is seen
abbrev pub LeavesAsItIs : Watch → View → ℕ → Type 0
LeavesAsItIs w v back = SeesSame w v back (back - 1)

-- the event changed this register so
pub record IsRegisterChange (v : View) (back : ℕ) (change : RegisterChange) : Type 0 where
  pub register : IsReg change.reg
  pub difference : IsDifference (Register change.reg) v back change.difference

-- a record leaves a register as it is, whatever it holds
abbrev pub LeavesAlone : Undo → Reg → Type 0
LeavesAlone r reg = (value : ℕ) → register_before r reg value ≡ value

-- the event changed no register that lies at the offset
abbrev pub LeavesOffset : View → ℕ → ℕ → Type 0
LeavesOffset v back o = (reg : Reg) → IsReg reg → offset_of reg ≡ o → LeavesAsItIs (Register reg) v back

-- the event changed no register that lies from an offset on below another
abbrev pub LeavesRegisters : View → ℕ → ℕ → ℕ → Type 0
LeavesRegisters v back from below = (o : ℕ) → from ≤ o → o < below → LeavesOffset v back o
