-- What a record of the journal makes of the states that a view has.
use Rattle.std.specs.Prelude.{◌≡◌, ℕ, Some, slice_get}
use Rattle.em_step.specs.Cells.{Cells, shows}
use Rattle.em_step.specs.Undo.{Fits, Undo, undo}
use Rattle.em_journal.specs.View.{View, states}

-- it fits cells that show the state k steps back, and makes of them cells that show the state k + 1 steps back
abbrev pub IsRecordAt : View → ℕ → Undo → Type 0
IsRecordAt v k r =
    (c : Cells) × Fits c r × (slice_get (states v) k ≡ Some (shows c)) × (slice_get v.past k ≡ Some (shows (undo c r)))
