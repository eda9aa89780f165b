-- What the lines of a tape say.
use Rattle.std.specs.Prelude.{ℕ, Bool, if◌then◌else◌, Option, Some, None, Result}
use Rattle.em_step.specs.Event.{Event}
use Rattle.em_step.specs.declared.event.Answer.{Answer}
use Rattle.em_step.specs.declared.refusal.Refusal.{Refusal}
use Rattle.em_line.specs.Command.{Command}
use Rattle.em_line.specs.Grammar.{parsed_line}
use Rattle.em_line.specs.ParsedLine.{access_in, command_in, event_in}
use Rattle.em_line.specs.Parts.{said_in}
use Rattle.em_line.specs.Said.{plain}
use Rattle.em_line.specs.declared.line.Line.{Line}
use Rattle.em_reasons.specs.Undone.{is_undone}
use Rattle.em_tape.specs.Tape.{Tape}
use Rattle.em_debugger.specs.Place.{text_of}

-- the access to a register that a line says
abbrev pub access_said : ℕ → Tape → Option Event
access_said line tape = access_in (parsed_line (text_of line tape))

-- the command that it says, where that brings no octets
abbrev pub command_said : ℕ → Tape → Option Command
command_said line tape = command_in (parsed_line (text_of line tape))

-- the event that it says
abbrev pub event_said : ℕ → Tape → Option Event
event_said line tape = event_in (parsed_line (said_in (text_of line tape)))

-- the event, where somebody asks for it
abbrev pub event_where : Bool → Option Event → Option Event
event_where asked event = if asked then event else None

-- an event that came to this, where it did nothing; of another nobody asks which it was
abbrev pub undone_event : Option (Result Answer Refusal) → Option Event → Option Event
undone_event came event = event_where (is_undone came) event

-- the event of a line that was read, if it was
abbrev pub event_read : Option Line → Option Event
event_read None = None
event_read (Some line) = event_in (plain line.says)
