-- What a note keeps of an event and its answer.
use Rattle.std.specs.Prelude.{ℕ, ◌%◌, ◌^◌, length, if◌then◌else◌}
use Rattle.em_step.specs.Event.{Event, reads, writes, pokes, arrives, links, receives, transmits}
use Rattle.em_step.specs.declared.event.Answer.{Answer}
use Rattle.em_step.specs.declared.event.Answer.TheVariants as answered
use Rattle.em_trail.specs.declared.dma.Dma.{Dma}
use Rattle.em_trail.specs.declared.note.Kind.{Kind}
use Rattle.em_trail.specs.declared.note.Kind.TheVariants as kind
use Rattle.em_trail.specs.declared.note.Note.{Note}

-- an event of this kind: where, how many octets, which value
abbrev pub plain_note : ℕ → ℕ → ℕ → ℕ → Kind → Note
plain_note tag at octets value kind =
    record { tag = tag; at = at; buffer = 0; length = octets; value = value; octets = 0; kind = kind }

-- a step of an engine: its descriptor, the octets of its buffer, how many the frame has, and the descriptor's index
abbrev pub stepped : Dma → ℕ → ℕ → ℕ → Kind → Note
stepped dma tag frame index kind = record {
  tag = tag;
  at = dma.descriptor;
  buffer = dma.buffer.at;
  length = frame;
  value = index;
  octets = dma.buffer.len % 2 ^ 32;
  kind = kind;
}

-- what a read gave
abbrev pub value_of : Answer → ℕ
value_of (answered.Value v) = v
value_of _ = 0

-- what became of a frame that arrived
abbrev pub arrived : Answer → Kind
arrived (answered.Dropped reason) = kind.Dropped reason
arrived _ = kind.Stored

-- a step of the receive engine
abbrev pub received : Dma → Answer → ℕ → Note
received dma (answered.Wrote index) tag = stepped dma tag 0 index kind.Wrote
received dma _ tag = plain_note tag 0 0 0 kind.ReceiveIdle

-- a step of the transmit engine
abbrev pub sent : Dma → Answer → ℕ → Note
sent dma (answered.Fetched index) tag = stepped dma tag 0 index kind.Fetched
sent dma (answered.Sent index octets) tag = stepped dma tag octets index kind.Sent
sent dma _ tag = plain_note tag 0 0 0 kind.TransmitIdle

-- the note of an event that had this to do with guest memory, and was answered so
abbrev pub note_of : Dma → Event → Answer → ℕ → Note
note_of dma (reads o) answer tag = plain_note tag o 4 (value_of answer) kind.Read
note_of dma (writes o v) answer tag = plain_note tag o 4 v kind.Write
note_of dma (pokes a octets) answer tag = plain_note tag a (length octets % 2 ^ 32) 0 kind.Poke
note_of dma (arrives f) answer tag = plain_note tag 0 (length f % 2 ^ 32) 0 (arrived answer)
note_of dma (links up) answer tag = plain_note tag 0 0 0 (if up then kind.LinkUp else kind.LinkDown)
note_of dma receives answer tag = received dma answer tag
note_of dma transmits answer tag = sent dma answer tag
