-- em_bench's looks: peek, and those that one word asks for.
use Rattle.std.specs.Prelude.{ℕ, Bool, true, false, if◌then◌else◌, List, [], Option, Some, None}
use Rattle.em_journal.specs.View.{View}
use Rattle.em_line.specs.Command as line
use Rattle.em_line.specs.Grammar.{parsed_line}
use Rattle.em_line.specs.ParsedLine.{command_in}
use Rattle.em_script.specs.Reply.{reply}
use Rattle.em_prompt.specs.declared.command.Command.{Command}
use Rattle.em_prompt.specs.declared.command.Command.TheVariants.{Peek, Bench}

-- a line with this name only looks at the machine
abbrev pub is_look : Command → Bool
is_look Peek = true
is_look (Bench look) = true
is_look _ = false

-- what em_bench answers to a command that is a look
abbrev pub shown_text : Option line.Command → View → List ℕ
shown_text None machine = []
shown_text (Some command) machine = if line.is_look command then (reply None command machine).text else []

-- to a line, if it says a look
abbrev pub look_text : View → List ℕ → List ℕ
look_text machine text = shown_text (command_in (parsed_line text)) machine
