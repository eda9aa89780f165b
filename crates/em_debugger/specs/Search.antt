-- How the newest change of a watched thing is sought among the events that stand.
use Rattle.std.specs.Prelude.{◌≡◌, ◌⊎◌, ℕ, ◌-◌, ◌<◌, max, length, Some, slice_get}
use Rattle.em_journal.specs.declared.settings.Settings.{Settings}
use Rattle.em_journal.specs.View.{states}
use Rattle.em_trail.specs.Trail.{TellsAt}
use Rattle.em_tape.specs.Tape.{Tape, event_at}
use Rattle.em_watch.specs.Change.{IsNextChange, NeverDiffers}
use Rattle.em_watch.specs.Watching.{sights}
use Rattle.em_watch.specs.declared.change.Change.{Change}
use Rattle.em_watch.specs.declared.watch.Watch.{Watch}
use Rattle.em_debugger.specs.declared.deeper.Unseen.{Unseen}
use Rattle.em_debugger.specs.declared.search.Found.{Found}
use Rattle.em_debugger.specs.declared.search.Sought.{Sought}
use Rattle.em_debugger.specs.declared.search.Sought.TheVariants as sought
use Rattle.em_debugger.specs.Deeper.{IsAgain, IsSeen, IsUnseen}

-- The journal holds the newest change from so many steps back on: this event made it, this is its note, and this was seen
-- before and after.
pub record IsFoundIn (tape : Tape) (watch : Watch) (back : ℕ) (found : Found) : Type 0 where
  pub change : Change
  pub next : IsNextChange watch tape.session.machine back change
  pub event : found.event ≡ event_at (change.back - 1) tape
  pub note : TellsAt (states tape.session.machine) (change.back - 1) found.note
  pub before : found.difference.before ≡ change.before
  pub after : slice_get (sights watch tape.session.machine) (change.back - 1) ≡ Some found.difference.after

-- the journal holds none: it does not reach so far, or the same is seen as far as it does
abbrev pub HoldsNone : Tape → Watch → ℕ → Type 0
HoldsNone tape watch back =
    (length tape.session.machine.past < back) ⊎ NeverDiffers watch tape.session.machine back

-- the newest event that the journal does not hold, from so many steps back on; 0 where it holds all that stand
abbrev pub next_unseen : Tape → ℕ → ℕ
next_unseen tape back = event_at (max (length tape.session.machine.past) back) tape

-- Among the events that stand at a tape's place it is looked for in the journal, from so many steps back on. Where that
-- holds no change, it is looked for from the newest event on that the journal does not hold, on a second tape that stands
-- right behind that event and on which the first tape's lines did the same; and so on, until no event is left. That
-- event is not seen only where memory is refused, or where its line alone has more events than the deepest journal holds.
pub data Seeks (settings : Settings) (first : Tape) (watch : Watch) : Tape → ℕ → Sought → Type 0 where
  found : (tape : Tape) (back : ℕ) (f : Found) → IsFoundIn tape watch back f
      → Seeks settings first watch tape back (sought.Found f)
  never : (tape : Tape) (back : ℕ) → HoldsNone tape watch back → next_unseen tape back ≡ 0
      → Seeks settings first watch tape back sought.Never
  deeper : (tape deep : Tape) (back : ℕ) (s : Sought) → HoldsNone tape watch back → 0 < next_unseen tape back
      → IsAgain settings first deep → IsSeen (next_unseen tape back) deep → Seeks settings first watch deep 0 s
      → Seeks settings first watch tape back s
  unreached : (tape : Tape) (back : ℕ) (why : Unseen) → HoldsNone tape watch back → 0 < next_unseen tape back
      → IsUnseen settings first (next_unseen tape back) why
      → Seeks settings first watch tape back (sought.Unreached why)
