-- The gathered octets before an event and after it.
use Rattle.std.specs.Prelude.{◌≡◌, ℕ, ◌-◌, List, ◌++◌, take, Option, Some, None, slice_get}
use Rattle.em_step.specs.State.{State}
use Rattle.em_journal.specs.View.{View, states}
use Rattle.em_recording.specs.declared.recorded.GatheredStep.{GatheredStep}

-- the first ones stay, and behind them come those of after the event
abbrev pub gathered_after : Option GatheredStep → List ℕ → List ℕ
gathered_after None octets = octets
gathered_after (Some step) octets = take step.kept octets ++ step.after.items

-- or again those of before it
abbrev pub gathered_before : Option GatheredStep → List ℕ → List ℕ
gathered_before None octets = octets
gathered_before (Some step) octets = take step.kept octets ++ step.before.items

-- the step leads from the one to the other, and back
pub record LeadsGathered (step : Option GatheredStep) (before after : List ℕ) : Type 0 where
  pub forward : gathered_after step before ≡ after
  pub backward : gathered_before step after ≡ before

-- so it is with the event before which so many steps back lead
abbrev pub IsGatheredStep : View → ℕ → Option GatheredStep → Type 0
IsGatheredStep v back step = (before after : State) → slice_get (states v) back ≡ Some before
    → slice_get (states v) (back - 1) ≡ Some after → LeadsGathered step before.gathered after.gathered
