-- What a line says, as data.
use Rattle.std.specs.Prelude.{Bool, true, false, List, Option, Some, None}
use Rattle.em_step.specs.Event.{Event, reads, writes, pokes, arrives}
use Rattle.em_turn.specs.declared.turn.Turn.{Turn}
use Rattle.em_line.specs.Command.{Command, event}
use Rattle.em_line.specs.Request.{Request, sends, sets_address}

-- a line prints nothing, or is bad, or says a command, or asks something of a driver, or sets the plan
pub data ParsedLine : Type 0 where
  silent : ParsedLine
  bad : ParsedLine
  says : Command → ParsedLine
  asks : Request → ParsedLine
  plans : List (List Turn) → ParsedLine

-- a command, if words say one
abbrev pub command_line : Option Command → ParsedLine
command_line None = bad
command_line (Some command) = says command

-- what is asked, if words ask something
abbrev pub request_line : Option Request → ParsedLine
request_line None = bad
request_line (Some request) = asks request

-- a plan, if words say one
abbrev pub plan_line : Option (List (List Turn)) → ParsedLine
plan_line None = bad
plan_line (Some plan) = plans plan

-- the lines whose octets take memory before anything is done: those of a memory write, of a frame, of a packet, or of
-- an address
abbrev pub brings_octets : ParsedLine → Bool
brings_octets (says (event (pokes addr octets))) = true
brings_octets (says (event (arrives octets))) = true
brings_octets (asks (sends packets)) = true
brings_octets (asks (sets_address octets)) = true
brings_octets _ = false

-- the lines that take memory where they are read whole: the same, and plans
abbrev pub takes_memory : ParsedLine → Bool
takes_memory (plans plan) = true
takes_memory line = brings_octets line

-- the event that a line says
abbrev pub event_in : ParsedLine → Option Event
event_in (says (event e)) = Some e
event_in _ = None

-- the command that a line says, where that brings no octets
abbrev pub command_in : ParsedLine → Option Command
command_in (says (event (pokes addr octets))) = None
command_in (says (event (arrives octets))) = None
command_in (says command) = Some command
command_in _ = None

-- the access to a register that a line says
abbrev pub access_in : ParsedLine → Option Event
access_in (says (event (reads o))) = Some (reads o)
access_in (says (event (writes o v))) = Some (writes o v)
access_in _ = None

-- em_bench reads it: it is no bad line
abbrev pub is_read : ParsedLine → Bool
is_read bad = false
is_read _ = true
