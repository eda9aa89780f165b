-- What a whole script prints where memory is refused nowhere, and the state that its lines lead to.
use Rattle.std.specs.Prelude.{◌≡◌, ℕ, false, List, ◌++◌, codes}
use Rattle.std.specs.List.{AllByRecursion}
use Rattle.em_step.specs.State.{State}
use Rattle.em_journal.specs.History.{Call, Leads, state, kept_events}
use Rattle.em_text.specs.Lines.{lines_of}
use Rattle.em_script.specs.Session.{Session}
use Rattle.em_line.specs.Grammar.{parsed_line}
use Rattle.em_script.specs.Reply.{line_takes_memory}
use Rattle.em_script.specs.PlayedLine.{PlayedLine, text_from, with_memory, calls}

-- what a script prints where memory is refused nowhere
abbrev pub text : List ℕ → Session → List ℕ
text script session = text_from 1 (with_memory (lines_of script)) session

-- no line of the script takes memory
abbrev pub TakesNoMemory : List ℕ → Type 0
TakesNoMemory script = AllByRecursion (λ line. line_takes_memory (parsed_line line) ≡ false) (lines_of script)

-- a line of a text that was written ends in ` Memory`
abbrev pub SaysMemory : List ℕ → Type 0
SaysMemory written = (before behind : List ℕ) × (written ≡ before ++ codes " Memory\n" ++ behind)

-- the state that a session shows is that which all events lead to that were performed since its machine was new, and
-- not taken back
abbrev pub IsFold : List PlayedLine → Session → Session → Type 0
IsFold all first now =
    (budget : ℕ) (s : State) (before : List Call) → Leads budget s before first.machine
    → now.machine.present ≡ state s (kept_events (before ++ calls all first))
