-- The budgets that a journal can have, in octets of cost.
use Rattle.std.specs.Prelude.{ℕ, ◌≤◌}

-- the least one holds any single event
abbrev pub IsBudget : ℕ → Type 0
IsBudget budget = (65_536 ≤ budget) × (budget ≤ 16_777_216)
