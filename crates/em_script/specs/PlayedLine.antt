-- The lines of a script that were played.
use Rattle.std.specs.Prelude.{◌≡◌, ℕ, ◌+◌, List, [], ◌∷◌, ◌++◌, map, Option, None}
use Rattle.em_journal.specs.History.{Call}
use Rattle.em_script.specs.declared.outcome.Outcome.{Outcome}
use Rattle.em_script.specs.Session.{Session}
use Rattle.em_line.specs.Grammar.{parsed_line}
use Rattle.em_script.specs.RefusedAt.{RefusedAt}
use Rattle.em_script.specs.Reply as replies

-- a line, and where memory was refused to it, if it was
pub record PlayedLine : Type 0 where
  pub line : List ℕ
  pub refused : Option RefusedAt

abbrev pub played_text : ℕ → PlayedLine → Session → List ℕ
played_text number played session = replies.line_text number played.refused (parsed_line played.line) session

abbrev pub played_outcome : PlayedLine → Session → Outcome
played_outcome played session = replies.line_outcome played.refused (parsed_line played.line) session

abbrev pub after_played : PlayedLine → Session → Session
after_played played session = replies.after_line played.refused (parsed_line played.line) session

abbrev pub played_calls : PlayedLine → Session → List Call
played_calls played session = replies.line_calls played.refused (parsed_line played.line) session

abbrev pub IsAllowed : PlayedLine → Session → Type 0
IsAllowed played session = replies.IsAllowed played.refused (parsed_line played.line) session

-- ---- lines, one after another

-- what they print, the first of them with this number
abbrev pub text_from : ℕ → List PlayedLine → Session → List ℕ
text_from number [] session = []
text_from number (played ∷ all) session =
    played_text number played session ++ text_from (number + 1) all (after_played played session)

-- the session that they leave
abbrev pub after_all : List PlayedLine → Session → Session
after_all [] session = session
after_all (played ∷ all) session = after_all all (after_played played session)

-- what became of each
abbrev pub outcomes : List PlayedLine → Session → List Outcome
outcomes [] session = []
outcomes (played ∷ all) session = played_outcome played session ∷ outcomes all (after_played played session)

-- the calls that they make
abbrev pub calls : List PlayedLine → Session → List Call
calls [] session = []
calls (played ∷ all) session = played_calls played session ++ calls all (after_played played session)

-- memory was refused only where it may be
abbrev pub AreAllowed : List PlayedLine → Session → Type 0
AreAllowed [] session = Unit {0}
AreAllowed (played ∷ all) session = IsAllowed played session × AreAllowed all (after_played played session)

-- these lines were played from the session on
pub record ArePlayed (all : List PlayedLine) (lines : List (List ℕ)) (session : Session) : Type 0 where
  pub each : map (λ played. played.line) all ≡ lines
  pub allowed : AreAllowed all session

-- the lines as they are played where memory is refused nowhere
abbrev pub with_memory : List (List ℕ) → List PlayedLine
with_memory lines = map (λ line. record { line = line; refused = None }) lines
