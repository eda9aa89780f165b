-- What an event was, as fields of its record.
use Rattle.std.specs.Prelude.{ℕ, List, [], ◌++◌, codes, decimal, Option, Some, None}
use Rattle.em_regs.specs.declared.reg.Reg.{Reg}
use Rattle.em_names.specs.Names.{name_of}
use Rattle.em_output.specs.Output.{reason_text}
use Rattle.em_trail.specs.declared.note.Kind.{Kind}
use Rattle.em_trail.specs.declared.note.Kind.TheVariants.{Read, Write, Poke, Stored, Dropped, LinkUp, LinkDown}
use Rattle.em_trail.specs.declared.note.Kind.TheVariants.{ReceiveIdle, Wrote, TransmitIdle, Fetched, Sent}
use Rattle.em_trail.specs.declared.note.Note.{Note}
use Rattle.em_noted.specs.Note.{note_text, register_of}

-- a register was read or written: its offset, its name, and the value
abbrev pub access_text : List ℕ → Option Reg → ℕ → ℕ → List ℕ
access_text word (Some reg) at value =
    codes ",\"kind\":\"" ++ (word ++ (codes "\",\"offset\":" ++ (decimal at
    ++ (codes ",\"register\":\"" ++ (name_of reg ++ (codes "\",\"value\":" ++ decimal value))))))
access_text word None at value =
    codes ",\"kind\":\"" ++ (word ++ (codes "\",\"offset\":" ++ (decimal at ++ (codes ",\"value\":" ++ decimal value))))

-- a frame of so many octets arrived, and this became of it, with why
abbrev pub arrival_text : ℕ → List ℕ → List ℕ → List ℕ
arrival_text octets became why =
    codes ",\"kind\":\"arrive\",\"length\":" ++ (decimal octets
    ++ (codes ",\"answer\":\"" ++ (became ++ (why ++ codes "\""))))

-- a step of an engine handled a descriptor: its index and its address, and the octets of a buffer
abbrev pub step_text : List ℕ → Note → List ℕ
step_text word note =
    codes ",\"kind\":\"" ++ (word ++ (codes "\",\"descriptor\":" ++ (decimal note.value
    ++ (codes ",\"at\":" ++ (decimal note.at ++ (codes ",\"buffer\":" ++ (decimal note.buffer
    ++ (codes ",\"octets\":" ++ decimal note.octets))))))))

-- the same of a step that sent a frame, and how many octets the frame has
abbrev pub sent_text : Note → List ℕ
sent_text note =
    codes ",\"kind\":\"tx\",\"answer\":\"sent\",\"descriptor\":" ++ (decimal note.value
    ++ (codes ",\"at\":" ++ (decimal note.at ++ (codes ",\"buffer\":" ++ (decimal note.buffer
    ++ (codes ",\"octets\":" ++ (decimal note.octets ++ (codes ",\"length\":" ++ decimal note.length))))))))

-- a kind, with the register, and what else the note has for an event of this kind
abbrev pub fields_of : Kind → Option Reg → Note → List ℕ
fields_of Read register note = access_text (codes "read") register note.at note.value
fields_of Write register note = access_text (codes "write") register note.at note.value
fields_of Poke register note =
    codes ",\"kind\":\"poke\",\"address\":" ++ (decimal note.at ++ (codes ",\"length\":" ++ decimal note.length))
fields_of Stored register note = arrival_text note.length (codes "stored") []
fields_of (Dropped reason) register note =
    arrival_text note.length (codes "dropped\",\"reason\":\"") (reason_text reason)
fields_of LinkUp register note = codes ",\"kind\":\"link\",\"up\":true"
fields_of LinkDown register note = codes ",\"kind\":\"link\",\"up\":false"
fields_of ReceiveIdle register note = codes ",\"kind\":\"rx\",\"answer\":\"idle\""
fields_of Wrote register note = step_text (codes "rx\",\"answer\":\"wrote") note
fields_of TransmitIdle register note = codes ",\"kind\":\"tx\",\"answer\":\"idle\""
fields_of Fetched register note = step_text (codes "tx\",\"answer\":\"fetched") note
fields_of Sent register note = sent_text note

abbrev pub kind_text : Note → List ℕ
kind_text note = fields_of note.kind (register_of note) note

-- all of it in words, as a debugger tells it
abbrev pub spoken_text : Note → List ℕ
spoken_text note = codes ",\"text\":\"" ++ (note_text note ++ codes "\"")

abbrev pub was_text : Note → List ℕ
was_text note = kind_text note ++ spoken_text note
