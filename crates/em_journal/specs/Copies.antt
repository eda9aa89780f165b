-- Records that take the same back as others do.
use Rattle.std.specs.Prelude.{ℕ, List, [], ◌∷◌, Option, None, Some, Vec, vec_capacity}
use Rattle.std.specs.Global.{Global}
use Rattle.em_step.specs.Copies.{SameRecord}
use Rattle.em_step.specs.declared.undo.Record.{Record}

-- as many records, each of which takes back what the other at its place does
abbrev pub AreCopies : List Record → List Record → Type 0
AreCopies [] [] = Unit {0}
AreCopies [] (s ∷ copies) = ⊥
AreCopies (r ∷ records) [] = ⊥
AreCopies (r ∷ records) (s ∷ copies) = SameRecord r s × AreCopies records copies

-- how much memory waits for a longer ring, where any does
abbrev pub room_of : Option (Vec ℕ Global) → Option ℕ
room_of None = None
room_of (Some waits) = Some (vec_capacity waits)
