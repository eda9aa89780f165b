-- What a register held before the newest event.
use Rattle.std.specs.Prelude.{ℕ, Option, Some, None, slice_get}
use Rattle.em_regs.specs.declared.reg.Reg.{Reg}
use Rattle.em_journal.specs.View.{View}
use Rattle.em_watch.specs.Watching.{sights}
use Rattle.em_watch.specs.declared.watch.Sight.{Sight}
use Rattle.em_watch.specs.declared.watch.Sight.TheVariants.{Value}
use Rattle.em_watch.specs.declared.watch.Watch.TheVariants.{Register}

abbrev pub value_of : Option Sight → Option ℕ
value_of (Some (Value value)) = Some value
value_of _ = None

-- one step back; none where no step back leads there
abbrev pub value_before : View → Reg → Option ℕ
value_before v reg = value_of (slice_get (sights (Register reg) v) 1)
