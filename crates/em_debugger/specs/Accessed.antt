-- The newest access of a register that no event changed.
use Rattle.std.specs.Prelude.{◌≡◌, ℕ, ◌<◌, ◌≤◌, ◌==◌, ◌&&◌, Bool, true, false, if◌then◌else◌, bit_and}
use Rattle.std.specs.Prelude.{List, [], codes, length, slice_get, Option, Some, None}
use Rattle.em_regs.specs.Table.{offset_of}
use Rattle.em_journal.specs.View.{states}
use Rattle.em_trail.specs.Trail.{TellsAt}
use Rattle.em_trail.specs.declared.note.Note.{Note}
use Rattle.em_trail.specs.declared.note.Kind.{Kind}
use Rattle.em_trail.specs.declared.note.Kind.TheVariants.{Read, Write}
use Rattle.em_tape.specs.Tape.{Tape, event_at}
use Rattle.em_watch.specs.Watching.{sights}
use Rattle.em_watch.specs.declared.watch.Watch.{Watch}
use Rattle.em_watch.specs.declared.watch.Watch.TheVariants as watch
use Rattle.em_watch.specs.declared.watch.Sight.{Sight}
use Rattle.em_watch.specs.declared.watch.Sight.TheVariants.{Value}
use Rattle.em_debugger.specs.declared.accessed.Accessed.{Accessed}

-- ---- which events are accesses

abbrev pub is_access_kind : Kind → Bool
is_access_kind Read = true
is_access_kind Write = true
is_access_kind _ = false

-- by its note an event was a read or a write at the register's offset
abbrev pub is_access : Watch → Note → Bool
is_access (watch.Register reg) note = is_access_kind note.kind && (note.at == offset_of reg)
is_access _ note = false

-- of the events from one so many steps back to another none was: a note tells so of each
abbrev pub NoneAccesses : Tape → Watch → ℕ → ℕ → Type 0
NoneAccesses tape watch from to =
    (k : ℕ) → from ≤ k → k < to
    → (note : Note) × (TellsAt (states tape.session.machine) k note × (is_access watch note ≡ false))

-- the newest that was, from so many steps back on: its note, and what is seen behind it
pub record IsAccessed (tape : Tape) (watch : Watch) (back : ℕ) (accessed : Accessed) : Type 0 where
  pub steps : ℕ
  pub within : back ≤ steps
  pub newer : NoneAccesses tape watch back steps
  pub event : accessed.event ≡ event_at steps tape
  pub note : TellsAt (states tape.session.machine) steps accessed.note
  pub accesses : is_access watch accessed.note ≡ true
  pub seen : accessed.seen ≡ slice_get (sights watch tape.session.machine) steps

-- as far as the journal reaches
abbrev pub IsNewestAccess : Tape → Watch → ℕ → Option Accessed → Type 0
IsNewestAccess tape watch back None = NoneAccesses tape watch back (length tape.session.machine.past)
IsNewestAccess tape watch back (Some accessed) = IsAccessed tape watch back accessed

-- ---- what came of it

-- of a write of a value, where the register holds this before it and after it
abbrev pub left_text : ℕ → ℕ → List ℕ
left_text value held =
    if value == held then codes ", which it held" else
    if bit_and value held == 0 then codes ", of which no bit is kept" else
    codes ", which left it as it was"

abbrev pub write_text : ℕ → Option Sight → List ℕ
write_text value (Some (Value held)) = left_text value held
write_text value _ = []

abbrev pub came_text : Kind → ℕ → Option Sight → List ℕ
came_text Write value seen = write_text value seen
came_text _ value seen = []
