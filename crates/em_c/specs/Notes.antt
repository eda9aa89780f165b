-- What the notes of a machine's events tell, and the tag of the next ones.
use Rattle.std.specs.Prelude.{ℕ, Option, Some, None, Result, Ok, Err, slice_get}
use Rattle.em_trail.specs.declared.note.Note.{Note}
use Rattle.em_c.specs.declared.note.EmNote.{EmNote}
use Rattle.em_c.specs.declared.refused.Refused.{Refused}
use Rattle.em_c.specs.declared.refused.Refused.TheVariants.{NoMachine, NoEvent}
use Rattle.em_c.specs.declared.tagged.Tagged.{Tagged}
use Rattle.em_c.specs.Note.{told_note}

-- whether a machine is held
abbrev pub holding : Option Tagged → Result (Unit {0}) Refused
holding None = Err NoMachine
holding (Some t) = Ok tt

-- nothing else changes
abbrev pub with_tag : ℕ → Option Tagged → Option Tagged
with_tag n None = None
with_tag n (Some t) = Some (record t { tag = n })

abbrev pub note_told : Option Note → Result EmNote Refused
note_told None = Err NoEvent
note_told (Some note) = Ok (told_note note)

-- what the k-th newest event was
abbrev pub event_at : ℕ → Option Tagged → Result EmNote Refused
event_at k None = Err NoMachine
event_at k (Some t) = note_told (slice_get t.traced.notes k)
