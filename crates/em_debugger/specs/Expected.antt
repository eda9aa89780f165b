-- The answers that lines expect, and how many were given so.
use Rattle.std.specs.Prelude.{ℕ, ◌+◌, ◌&&◌, not, Bool, true, false, if◌then◌else◌, List, [], ◌∷◌, Option, None, unwrap_or, Result}
use Rattle.em_step.specs.Event.{Event}
use Rattle.em_step.specs.declared.event.Answer.{Answer}
use Rattle.em_step.specs.declared.refusal.Refusal.{Refusal}
use Rattle.em_line.specs.Parts.{expected_in}
use Rattle.em_script.specs.Outcome.{event_came}
use Rattle.em_tape.specs.Texts.{texts}
use Rattle.em_expect.specs.Agreement.{agrees_of}
use Rattle.em_expect.specs.Difference.{difference_text, register_of}
use Rattle.em_debugger.specs.declared.debugger.Debugger.{Debugger}
use Rattle.em_debugger.specs.declared.expected.Score.{Score}
use Rattle.em_debugger.specs.Debugger.{came}
use Rattle.em_debugger.specs.Reading.{access_said}
use Rattle.em_debugger.specs.Counted.{counted}
use Rattle.em_debugger.specs.Told.{KeepsText, KeepsTexts, told_of}
use Rattle.em_warnings.specs.Warnings.{found_count, found_of, is_asked}
use Rattle.em_warnings.specs.declared.warning.Warning.{Warning}

-- the answer that a line expects, by its number; where it expects none, no octet
abbrev pub wanted : ℕ → Debugger → List ℕ
wanted line d = told_of line (texts d.wanted.answers.items)

-- the one that stands in a text; no octet, where none does
abbrev pub wanted_in : List ℕ → List ℕ
wanted_in text = unwrap_or (expected_in text) []

abbrev pub is_wanted : List ℕ → Bool
is_wanted [] = false
is_wanted (octet ∷ octets) = true

-- one is wanted, and this is another
abbrev pub differs : Option Event → List ℕ → List ℕ → Bool
differs event wanted answer = is_wanted wanted && not (agrees_of event wanted answer)

-- the access to a register that a line says, if it says one
abbrev pub access_of : ℕ → Debugger → Option Event
access_of line d = access_said line d.tape

-- the rules are asked of a line that came to this
abbrev pub asks_rules : Debugger → Option (Result Answer Refusal) → Bool
asks_rules d came = d.warns && is_asked came

-- the line was answered otherwise than it expects
abbrev pub answers_otherwise : Debugger → ℕ → Bool
answers_otherwise d line = differs (access_of line d) (wanted line d) d.answer.items

-- one answer more is counted
abbrev pub with_answer : Score → Bool → Score
with_answer score true = record score { differed = counted (score.differed + 1) }
with_answer score false = record score { agreed = counted (score.agreed + 1) }

-- so many warnings more are counted
abbrev pub with_warnings : Score → ℕ → Score
with_warnings score more = record score { warnings = counted (score.warnings + more) }

-- what the rules say of the access of a line that came to this, if that is to be said and they are asked
abbrev pub warned_by : Debugger → ℕ → Option (Result Answer Refusal) → Option (List (Option Warning))
warned_by d line came =
    if asks_rules d came then found_of d.tape.session.machine (access_of line d) came else None

-- and so of a line, as it came out
abbrev pub warned_behind : Debugger → ℕ → Option (List (Option Warning))
warned_behind d line = warned_by d line (event_came (came line d))

-- the answer to a line is counted, where one is expected
abbrev pub scored_answer : Debugger → ℕ → Score
scored_answer d line = if is_wanted (wanted line d) then with_answer d.score (answers_otherwise d line) else d.score

-- and its warnings
abbrev pub scored : Debugger → ℕ → Score
scored d line = with_warnings (scored_answer d line) (found_count (warned_behind d line))

-- how the answer to an event differs from the one that is wanted, if it does
abbrev pub compared_of : Option Event → List ℕ → List ℕ → List ℕ
compared_of event wanted answer =
    if differs event wanted answer then difference_text (register_of event) wanted answer else []

abbrev pub compared_text : Debugger → ℕ → List ℕ
compared_text d line = compared_of (access_of line d) (wanted line d) d.answer.items

-- it is kept which answer a line expects, if it expects one
abbrev pub Expects : ℕ → List ℕ → List (List ℕ) → List (List ℕ) → Type 0
Expects line answer old new = KeepsText line answer old new

-- the same of lines, the first of them with this number
abbrev pub AllExpect : ℕ → List (List ℕ) → List (List ℕ) → List (List ℕ) → Type 0
AllExpect number lines old new = KeepsTexts wanted_in number lines old new
