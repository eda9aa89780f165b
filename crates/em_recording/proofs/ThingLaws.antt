-- What is seen just before an event and just after it, in the two states.
use Rattle.std.proofs.Common.{◌≡◌, ◌∙◌, ℕ, ◌-◌, Option, Some, None, sym, ap}
use Rattle.std.specs.Prelude.{IfSome, IfNone, slice_get}
use Rattle.em_step.specs.State.{State}
use Rattle.em_journal.specs.View.{View, states}
use Rattle.em_watch.specs.Difference.{IsDifference, LeavesAsItIs}
use Rattle.em_watch.specs.Watching.{sight, sights}
use Rattle.em_watch.specs.declared.difference.Difference.{Difference}
use Rattle.em_watch.specs.declared.watch.Watch.{Watch}
use Rattle.em_watch.specs.declared.watch.Sight.{Sight}
use Rattle.em_watch.proofs.TracedLaws.{mapped, some_is}
use Rattle.em_recording.specs.Effects.{Does, step_of}
use Rattle.em_recording.specs.Steps.{step_after, step_before}

-- what is seen so many steps back is seen in that state
pub seen_is : (w : Watch) (v : View) (k : ℕ) (s : State) (x : Sight) → slice_get (states v) k ≡ Some s
    → slice_get (sights w v) k ≡ Some x → x ≡ sight w s
seen_is w v k s x there seen = some_is x (sight w s) (sym seen ∙ mapped (sight w) (states v) k s there)

pub does : (w : Watch) (v : View) (back : ℕ) (did : Option Difference) → IfSome did (IsDifference w v back)
    → IfNone did (LeavesAsItIs w v back) → Does w v back did
does w v back None some none = none
does w v back (Some d) some none = some

module _ (v : View) (back : ℕ) (before after : State) (was : slice_get (states v) back ≡ Some before)
    (is : slice_get (states v) (back - 1) ≡ Some after) where
  -- what the event left is seen in both
  pub left_sight : (w : Watch) → LeavesAsItIs w v back → sight w before ≡ sight w after
  left_sight w left =
      some_is (sight w before) (sight w after)
      (sym (mapped (sight w) (states v) back before was) ∙ left ∙ mapped (sight w) (states v) (back - 1) after is)

  -- a step leads from the one to the other
  pub thing_after : {T : Type 0} (w : Watch) (read : Sight → T) (did : Option Difference) → Does w v back did
      → step_after (step_of read did) (read (sight w before)) ≡ read (sight w after)
  thing_after w read None left = ap read (left_sight w left)
  thing_after w read (Some d) changed = ap read (seen_is w v (back - 1) after d.after is changed.after)

  -- and back
  pub thing_before : {T : Type 0} (w : Watch) (read : Sight → T) (did : Option Difference) → Does w v back did
      → step_before (step_of read did) (read (sight w after)) ≡ read (sight w before)
  thing_before w read None left = sym (ap read (left_sight w left))
  thing_before w read (Some d) changed = ap read (seen_is w v back before d.before was changed.before)
