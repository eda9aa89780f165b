-- A run as it is kept: the machine's calls, and the text of them.
use Rattle.std.specs.Prelude.{◌≡◌, ℕ, ◌≤◌, nat_lt, if◌then◌else◌, List, [], ◌∷◌, ◌++◌, map, replicate, codes}
use Rattle.std.specs.Prelude.{Option, Some, None}
use Rattle.std.specs.List.{flat_map}
use Rattle.em_regs.specs.declared.profile.Profile.{Profile}
use Rattle.em_step.specs.Event.{Event}
use Rattle.em_step.specs.declared.event.Answer.{Answer}
use Rattle.em_step.specs.declared.refusal.Refusal.{Refusal}
use Rattle.em_journal.specs.History.{Call, performs, refuses, goes_back, is_empty}
use Rattle.em_journal.specs.View.{View}
use Rattle.em_line.specs.Parts.{expected_in, said_in}
use Rattle.em_script.specs.PlayedLine.{after_all, text_from, with_memory}
use Rattle.em_script.specs.Session.{bare}
use Rattle.em_kept.specs.Source.{Source}
use Rattle.em_kept.specs.Kept.{back_text, event_text, refused_text}
use Rattle.em_kept.specs.Head.{head_text}
use Rattle.em_kept.specs.ReadBack.{IsTyped, IsTypedAnswer, IsTypedSource}

-- what is kept at once: an event with its answer, one that was refused, or steps back, of which so many were asked for
-- and so many taken
pub data Kept : Type 0 where
  performed : Event → Answer → Source → Kept
  refused : Event → Refusal → Source → Kept
  went_back : ℕ → ℕ → Source → Kept

-- ---- the machine's calls

-- where fewer are taken than were asked for, the journal was empty then
abbrev pub steps_back : ℕ → ℕ → List Call
steps_back asked taken = replicate taken goes_back ++ (if nat_lt taken asked then is_empty ∷ [] else [])

abbrev pub calls_of : Kept → List Call
calls_of (performed e answer source) = performs e answer ∷ []
calls_of (refused e refusal source) = refuses e refusal ∷ []
calls_of (went_back asked taken source) = steps_back asked taken

abbrev pub calls_of_run : List Kept → List Call
calls_of_run run = flat_map calls_of run

-- ---- the text

-- as `write_event`, `write_refused` and `write_back` write it
abbrev pub text_of : Kept → List ℕ
text_of (performed e answer source) = event_text e answer source
text_of (refused e refusal source) = refused_text e refusal source
text_of (went_back asked taken source) = back_text asked taken source

-- behind what `write_head` writes
abbrev pub file_text : Profile → ℕ → ℕ → ℕ → List ℕ → List Kept → List ℕ
file_text profile base memory budget words run = head_text profile base memory budget words ++ flat_map text_of run

-- ---- what comes of the calls' own types

abbrev pub IsTypedKept : Kept → Type 0
IsTypedKept (performed e answer source) = IsTyped e × (IsTypedAnswer answer × IsTypedSource source)
IsTypedKept (refused e refusal source) = IsTyped e × IsTypedSource source
IsTypedKept (went_back asked taken source) = (taken ≤ asked) × IsTypedSource source

abbrev pub AreTyped : List Kept → Type 0
AreTyped [] = Unit {0}
AreTyped (kept ∷ run) = IsTypedKept kept × AreTyped run

-- ---- what it says when it is played

-- the answer that a line expects, as it is printed; of a line that expects none nothing is printed
abbrev pub printed : Option (List ℕ) → List ℕ
printed None = []
printed (Some answer) = answer ++ codes "\n"

abbrev pub expected_text : List ℕ → List ℕ
expected_text line = printed (expected_in line)

-- what the lines say leads from one machine to the other, and prints exactly the answers that they expect
pub record PlaysTheSame (lines : List (List ℕ)) (v w : View) : Type 0 where
  pub machine : after_all (with_memory (map said_in lines)) (bare v) ≡ bare w
  pub answers : text_from 1 (with_memory (map said_in lines)) (bare v) ≡ flat_map expected_text lines
