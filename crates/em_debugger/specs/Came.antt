-- How the lines came out, as it is kept.
use Rattle.std.specs.Prelude.{◌≡◌, ◌≢◌, ℕ, List, unwrap_or}
use Rattle.em_script.specs.declared.outcome.Outcome.{Outcome}
use Rattle.em_script.specs.declared.outcome.Outcome.TheVariants.{Silent}
use Rattle.em_tape.specs.Tape.{line_at}

-- how the line of a number came out, from 1; where nothing is kept of it, as a line that says nothing
abbrev pub came_of : ℕ → List Outcome → Outcome
came_of n outcomes = unwrap_or (line_at n outcomes) Silent

-- beside each line the same stands
abbrev pub Stays : List Outcome → List Outcome → Type 0
Stays old new = (line : ℕ) → came_of line new ≡ came_of line old

-- one line came out so, and for the others the same is kept
pub record Comes (number : ℕ) (outcome : Outcome) (old new : List Outcome) : Type 0 where
  pub this : came_of number new ≡ outcome
  pub others : (n : ℕ) → n ≢ number → came_of n new ≡ came_of n old
