-- A table of tests, each with the reason that it gives. The first test that holds decides.
use Rattle.std.specs.Prelude.{◌≡◌, ◌<◌, ◌↔◌, ℕ, Bool, true, false, List, [], ◌∷◌, slice_get, Option, Some, None}
use Rattle.std.specs.Prelude.{if◌then◌else◌}

-- the reason of the first test that holds
abbrev pub first_of : {Reason : Type 0} → List (Bool × Reason) → Option Reason
first_of [] = None
first_of (row ∷ rows) = if row.0 then Some row.1 else first_of rows

-- test k holds and gives this reason, and no test before it holds
pub record Decides {Reason : Type 0} (rows : List (Bool × Reason)) (k : ℕ) (reason : Reason) : Type 0 where
  pub holds : slice_get rows k ≡ Some (true, reason)
  pub before : (j : ℕ) (row : Bool × Reason) → j < k → slice_get rows j ≡ Some row → row.0 ≡ false

-- the table gives a reason exactly where one of its tests decides so
abbrev pub GivesFirst : (Reason : Type 0) → Type 0
GivesFirst Reason =
    (rows : List (Bool × Reason)) (reason : Reason)
    → (first_of rows ≡ Some reason) ↔ ((k : ℕ) × Decides rows k reason)
