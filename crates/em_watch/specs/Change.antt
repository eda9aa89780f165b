-- Which event changed a watched thing.
use Rattle.std.specs.Prelude.{◌≡◌, ◌≢◌, ℕ, ◌<◌, ◌≤◌, length, slice_get, Some}
use Rattle.em_journal.specs.View.{View}
use Rattle.em_watch.specs.Watching.{sights}
use Rattle.em_watch.specs.declared.watch.Watch.{Watch}
use Rattle.em_watch.specs.declared.change.Change.{Change}

-- i steps back the same is seen as j steps back
abbrev pub SeesSame : Watch → View → ℕ → ℕ → Type 0
SeesSame w v i j = slice_get (sights w v) i ≡ slice_get (sights w v) j

-- The next change, from so many steps back on: there another thing is seen than before the change, and at each step
-- between, the same as there.
pub record IsNextChange (w : Watch) (v : View) (from : ℕ) (change : Change) : Type 0 where
  pub older : from < change.back
  pub before : slice_get (sights w v) change.back ≡ Some change.before
  pub another : slice_get (sights w v) from ≢ Some change.before
  pub since : (i : ℕ) → from ≤ i → i < change.back → SeesSame w v i from

-- from so many steps back on, the same is seen to so many
abbrev pub StaysTo : Watch → View → ℕ → ℕ → Type 0
StaysTo w v from to = (i : ℕ) → from ≤ i → i ≤ to → SeesSame w v i from

-- from so many steps back on, the same is seen as far as steps back lead
abbrev pub NeverDiffers : Watch → View → ℕ → Type 0
NeverDiffers w v from = StaysTo w v from (length v.past)
