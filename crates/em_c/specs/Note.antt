-- What an event was, as C sees it.
use Rattle.std.specs.Prelude.{ℕ}
use Rattle.em_step.specs.declared.event.Reason.{Reason}
use Rattle.em_step.specs.declared.event.Reason.TheVariants.{Down, Disabled, Rejected, Undersize, Oversize, Missed}
use Rattle.em_trail.specs.declared.note.Kind.{Kind}
use Rattle.em_trail.specs.declared.note.Kind.TheVariants.{Read, Write, Poke, Stored, Dropped, LinkUp, LinkDown}
use Rattle.em_trail.specs.declared.note.Kind.TheVariants.{ReceiveIdle, Wrote, TransmitIdle, Fetched, Sent}
use Rattle.em_trail.specs.declared.note.Note.{Note}
use Rattle.em_c.specs.declared.note.EmNote.{EmNote}

-- a frame that was dropped
abbrev pub number_of_reason : Reason → ℕ
number_of_reason Down = 12
number_of_reason Disabled = 13
number_of_reason Rejected = 14
number_of_reason Undersize = 15
number_of_reason Oversize = 16
number_of_reason Missed = 17

abbrev pub number_of_kind : Kind → ℕ
number_of_kind Read = 1
number_of_kind Write = 2
number_of_kind Poke = 3
number_of_kind LinkUp = 4
number_of_kind LinkDown = 5
number_of_kind ReceiveIdle = 6
number_of_kind Wrote = 7
number_of_kind TransmitIdle = 8
number_of_kind Fetched = 9
number_of_kind Sent = 10
number_of_kind Stored = 11
number_of_kind (Dropped reason) = number_of_reason reason

-- what a note tells
abbrev pub told_note : Note → EmNote
told_note note = record {
  tag = note.tag;
  at = note.at;
  length = note.length;
  value = note.value;
  kind = number_of_kind note.kind;
  octets = note.octets;
  buffer = note.buffer;
}
