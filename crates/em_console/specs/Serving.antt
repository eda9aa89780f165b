-- What serving a session at a console does to both.
use Rattle.std.specs.Prelude.{◌≡◌, ◌⊎◌, ◌-◌, ◌^◌, ◌<◌, ◌≤◌, ℕ, List, [], ◌∷◌, ◌++◌, codes, length, Result, Ok, Err}
use Rattle.std.specs.Io.{StartsWith}
use Rattle.em_console.specs.declared.fault.ConsoleFault.{ConsoleFault}
use Rattle.em_console.specs.declared.fault.ConsoleFault.TheVariants.{Read, Memory}
use Rattle.em_console.specs.declared.session.Flow.{Flow}
use Rattle.em_console.specs.declared.session.Flow.TheVariants.{Goes, Ends}
use Rattle.em_console.specs.declared.serving.End.{End}
use Rattle.em_console.specs.declared.serving.End.TheVariants.{Input, Session}
use Rattle.em_console.specs.Reading.{most_line}
use Rattle.em_console.specs.Turns.{Turn, Typed, Over, Failed, Told, Cut, Leads}

-- a line, and the text that answers it
pub record Round : Type 0 where
  pub line : List ℕ
  pub text : List ℕ

-- each line, and then the whole of its answer
abbrev pub turns : List Round → List Turn
turns [] = []
turns (round ∷ rounds) = Typed round.line ∷ Told round.text ∷ turns rounds

-- how a session defines its answers: in a state, to a line, this text, whether it goes on, and the state that follows
abbrev pub Answering : Type 0 → Type 1
Answering S = S → List ℕ → List ℕ → Flow → S → Type 0

-- how it defines its refusals of lines that are too long: in a state, of a line, this text
abbrev pub Refusing : Type 0 → Type 1
Refusing S = S → List ℕ → List ℕ → Type 0

-- what is said of a line that is too long
abbrev pub long_text : List ℕ
long_text = codes "a line has at most 65536 octets\n"

-- the session answers each line but one that is too long: that is refused, and the session stays and goes on
abbrev pub within : {S : Type 0} → Answering S → Refusing S → Answering S
within answers refuses before line text flow after =
    (length line ≤ most_line → answers before line text flow after)
    × (most_line < length line → refuses before line text × (flow ≡ Goes) × (after ≡ before))

-- memory for an answer is refused, where the session stops so, or before a line that is too long is refused
abbrev pub halts : {S : Type 0} → (S → List ℕ → S → Type 0) → S → List ℕ → S → Type 0
halts stops before line after =
    (length line ≤ most_line → stops before line after) × (most_line < length line → after ≡ before)

-- the session answers a line, and goes on
abbrev pub GoesOn : {S : Type 0} → Answering S → S → Round → S → Type 0
GoesOn answers before round after = answers before round.line round.text Goes after

-- a line was typed, its answer was told, and the session has ended
pub record EndsAfter {S : Type 0} (answers : Answering S) (last : List Turn) (before after : S) : Type 0 where
  pub round : Round
  pub turns : last ≡ Typed round.line ∷ Told round.text ∷ []
  pub answered : answers before round.line round.text Ends after

-- a line was typed, and its answer was told in part
pub record EndsWithin {S : Type 0} (answers : Answering S) (last : List Turn) (before after : S) : Type 0 where
  pub round : Round
  pub flow : Flow
  pub part : List ℕ
  pub turns : last ≡ Typed round.line ∷ Cut part ∷ []
  pub front : StartsWith round.text part
  pub answered : answers before round.line round.text flow after

-- a line was typed, and memory for its answer was refused
pub record EndsWithout {S : Type 0} (stops : S → List ℕ → S → Type 0) (last : List Turn) (before after : S)
    : Type 0 where
  pub line : List ℕ
  pub turns : last ≡ Typed line ∷ []
  pub stopped : stops before line after

-- the last turns, and what they left of the session, by how serving ended; more than 2^64 - 1 lines are not asked for
abbrev pub EndsBy : {S : Type 0} → Answering S → (S → List ℕ → S → Type 0) → Result End ConsoleFault → ℕ → List Turn
    → S → S → Type 0
EndsBy answers stops (Ok Input) count last before after = (last ≡ Over ∷ []) × (after ≡ before)
EndsBy answers stops (Ok Session) count last before after = EndsAfter answers last before after
EndsBy answers stops (Err fault) count last before after =
    ((last ≡ Failed ∷ []) × (after ≡ before))
    ⊎ EndsWithin answers last before after
    ⊎ ((fault ≡ Memory) × EndsWithout stops last before after)
    ⊎ ((fault ≡ Read) × (count ≡ 2 ^ 64 - 1) × (last ≡ []) × (after ≡ before))

-- What passed at the console is, for the lines that were typed, each line and then the whole of its answer, as the
-- session defines it in the state that the lines before have left. Then come the last turns.
pub record Serves {C S : Type 0} (passes : C → Turn → C → Type 0) (answers : Answering S)
    (stops : S → List ℕ → S → Type 0) (result : Result End ConsoleFault) (first now : C) (before after : S)
    : Type 0 where
  pub rounds : List Round
  pub last : List Turn
  pub between : S
  pub answered : Leads (GoesOn answers) rounds before between
  pub passed : Leads passes (turns rounds ++ last) first now
  pub ended : EndsBy answers stops result (length rounds) last between after
