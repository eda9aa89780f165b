-- A machine with the tag of its next events and how far its wire was handed over, and what becomes of it.
use Rattle.std.specs.Prelude.{◌≡◌, ℕ, drop, length, min}
use Rattle.em_mem.specs.Memory.{LiesIn}
use Rattle.em_step.specs.State.{State}
use Rattle.em_step.specs.Event.{Event}
use Rattle.em_step.specs.declared.event.Answer.{Answer}
use Rattle.em_journal.specs.View as journal
use Rattle.em_journal.specs.View.{View}
use Rattle.em_trail.specs.Trail.{Trail, Noted}
use Rattle.em_trail.specs.declared.note.Note.{Note}
use Rattle.em_trail.specs.Dma.{dma_of}
use Rattle.em_trail.specs.Note.{note_of}
use Rattle.em_c.specs.declared.tagged.Tagged.{Tagged}

-- where the machine is
abbrev pub present_of : Tagged → State
present_of t = t.traced.view.present

-- octets from an address on lie in its memory
abbrev pub Holds : Tagged → ℕ → ℕ → Type 0
Holds t at n = LiesIn (present_of t).base (present_of t).memory at n

-- the event is performed, and noted under the tag; nothing else changes
pub record Performs (t : Tagged) (event : Event) (answer : Answer) (u : Tagged) : Type 0 where
  pub noted : Noted t.traced u.traced t.tag event answer
  pub tag : u.tag ≡ t.tag
  pub handed : u.handed ≡ t.handed

-- the note of an event that was performed, with some answer
pub record IsNoteOf (t : Tagged) (event : Event) (u : Tagged) (note : Note) : Type 0 where
  pub answer : Answer
  pub performed : Performs t event answer u
  pub noted : note ≡ note_of (dma_of (present_of t) event) event answer t.tag

-- a trail after n steps back, or as many as there are: the notes of these events go
abbrev pub trail_back : ℕ → Trail → Trail
trail_back n trail = record { view = journal.after_backs n trail.view; notes = drop n trail.notes }

-- the tag stays
abbrev pub backs : ℕ → Tagged → Tagged
backs n t = record t { traced = trail_back n t.traced }

-- a frame that is off the wire again was not handed over
abbrev pub with_wire : Tagged → Tagged
with_wire t = record t { handed = min t.handed (length (present_of t).wire) }

abbrev pub after_backs : ℕ → Tagged → Tagged
after_backs n t = with_wire (backs n t)
