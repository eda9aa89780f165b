-- What an event was, in words.
use Rattle.std.specs.Prelude.{ℕ, List, ◌++◌, codes, decimal, Option, Some, None}
use Rattle.em_text.specs.Writer.{value_digits}
use Rattle.em_regs.specs.declared.profile.Profile.TheVariants.{Adapter}
use Rattle.em_regs.specs.Table.{reg_of}
use Rattle.em_regs.specs.declared.reg.Reg.{Reg}
use Rattle.em_names.specs.Bits.{register_text}
use Rattle.em_inspect.specs.AddressText.{address_text}
use Rattle.em_output.specs.Output.{reason_text}
use Rattle.em_trail.specs.declared.note.Kind.{Kind}
use Rattle.em_trail.specs.declared.note.Kind.TheVariants.{Read, Write, Poke, Stored, Dropped, LinkUp, LinkDown}
use Rattle.em_trail.specs.declared.note.Kind.TheVariants.{ReceiveIdle, Wrote, TransmitIdle, Fetched, Sent}
use Rattle.em_trail.specs.declared.note.Note.{Note}

-- the register that lies at an offset, with its value and its bits; the offset, where none does
abbrev pub access_text : Option Reg → ℕ → ℕ → List ℕ
access_text (Some reg) at value = register_text reg value
access_text None at value = address_text at ++ (codes " " ++ value_digits value)

-- a frame of so many octets arrived, and this became of it
abbrev pub arrival_text : ℕ → List ℕ → List ℕ
arrival_text octets became = codes "arrive length " ++ (decimal octets ++ (codes ": " ++ became))

-- an event of a kind, at a place, over so many octets, with a value
abbrev pub text_of : Kind → ℕ → ℕ → ℕ → List ℕ
text_of Read at octets value = codes "read " ++ access_text (reg_of Adapter at) at value
text_of Write at octets value = codes "write " ++ access_text (reg_of Adapter at) at value
text_of Poke at octets value = codes "poke " ++ (address_text at ++ (codes " length " ++ decimal octets))
text_of Stored at octets value = arrival_text octets (codes "stored")
text_of (Dropped reason) at octets value = arrival_text octets (codes "dropped " ++ reason_text reason)
text_of LinkUp at octets value = codes "link up"
text_of LinkDown at octets value = codes "link down"
text_of ReceiveIdle at octets value = codes "rx: idle"
text_of Wrote at octets value = codes "rx: wrote " ++ decimal value
text_of TransmitIdle at octets value = codes "tx: idle"
text_of Fetched at octets value = codes "tx: fetched " ++ decimal value
text_of Sent at octets value = codes "tx: sent " ++ (decimal value ++ (codes " " ++ decimal octets))

abbrev pub note_text : Note → List ℕ
note_text note = text_of note.kind note.at note.length note.value

-- the register that an access of this kind is of, whatever its profile; none where no register lies there
abbrev pub accessed : Kind → ℕ → Option Reg
accessed Read at = reg_of Adapter at
accessed Write at = reg_of Adapter at
accessed _ at = None

abbrev pub register_of : Note → Option Reg
register_of note = accessed note.kind note.at
