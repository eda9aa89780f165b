-- What lines that were played did with events.
use Rattle.std.specs.Prelude.{ℕ, List, [], ◌∷◌, length, min, if◌then◌else◌, Option}
use Rattle.em_journal.specs.History.{Call, performs, Run}
use Rattle.em_journal.specs.View.{View}
use Rattle.em_line.specs.Command as command
use Rattle.em_line.specs.Command.{Command, event}
use Rattle.em_line.specs.Grammar.{parsed_line}
use Rattle.em_line.specs.ParsedLine.{ParsedLine, says, asks}
use Rattle.em_named.specs.Lines.{IsDid, AreDid, all_calls}
use Rattle.em_named.specs.declared.did.Did.{Did}
use Rattle.em_named.specs.declared.did.Did.TheVariants.{Performed, TookBack}
use Rattle.em_script.specs.Calling.{has_driver, after_asked}
use Rattle.em_script.specs.PlayedLine.{PlayedLine, after_played}
use Rattle.em_script.specs.RefusedAt.{RefusedAt, named_of}
use Rattle.em_script.specs.Reply.{event_call}
use Rattle.em_script.specs.Session.{Session}

-- how many events a call of the machine performed
abbrev pub events_in : Call → ℕ
events_in (performs e answer) = 1
events_in _ = 0

-- a command, by where memory was refused: looks perform nothing
abbrev pub command_did : Option RefusedAt → Command → View → Did
command_did memory (event e) machine = Performed (events_in (event_call memory e machine))
command_did memory command.back machine = TookBack (min 1 (length machine.past))
command_did memory (command.back_by most) machine = TookBack (min most (length machine.past))
command_did memory _ machine = Performed 0

-- A line, by where memory was refused to it and the session before it. A call of a driver performed as many events as
-- the session then says; without a driver it performed none.
abbrev pub did_of : Option RefusedAt → ParsedLine → Session → Did
did_of memory (says command) session = command_did memory command session.machine
did_of memory (asks request) session =
    Performed (if has_driver request session then (after_asked (named_of memory) request session).events else 0)
did_of memory _ session = Performed 0

abbrev pub played_did : PlayedLine → Session → Did
played_did played session = did_of played.refused (parsed_line played.line) session

-- lines, one after another
abbrev pub all_did : List PlayedLine → Session → List Did
all_did [] session = []
all_did (played ∷ all) session = played_did played session ∷ all_did all (after_played played session)

-- some calls led from a session's machine to another's, and did so with events
pub record DidSo (first now : Session) (did : Did) : Type 0 where
  pub calls : List Call
  pub run : Run first.machine calls now.machine
  pub is : IsDid calls did

-- some calls of each line, one line after another
pub record AllDidSo (first now : Session) (did : List Did) : Type 0 where
  pub lines : List (List Call)
  pub run : Run first.machine (all_calls lines) now.machine
  pub are : AreDid lines did
