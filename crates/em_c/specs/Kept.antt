-- Calls that also tell what they do, as the lines that are kept of it.
use Rattle.std.specs.Prelude.{◌≡◌, ℕ, ◌==◌, if◌then◌else◌, List, [], length, min, Option, Some, None, Result, Ok, Err}
use Rattle.em_regs.specs.declared.profile.Profile.{Profile}
use Rattle.em_step.specs.Event.{Event, reads}
use Rattle.em_step.specs.Step.{Refuses}
use Rattle.em_step.specs.declared.event.Answer.{Answer}
use Rattle.em_step.specs.declared.refusal.Refusal.{Refusal}
use Rattle.em_kept.specs.Source.{Source, unknown, line, counter}
use Rattle.em_kept.specs.Head.{head_text}
use Rattle.em_kept.specs.Kept.{back_text, event_text, refused_text}
use Rattle.em_c.specs.declared.refused.Refused.TheVariants.{NoMachine}
use Rattle.em_c.specs.declared.tagged.Tagged.{Tagged}
use Rattle.em_c.specs.declared.text.Text.{Text}
use Rattle.em_c.specs.Calls.{value_read}
use Rattle.em_c.specs.declared.refused.Refused.{Refused}
use Rattle.em_c.specs.Refused.{number, of_event, Shows}
use Rattle.em_c.specs.Tagged.{Performs, present_of}
use Rattle.em_c.specs.Text.{Says, said}

-- Where a call comes from: a line of a file, where the file has a name; else a program counter, where it is not 0.
abbrev pub source_of : List ℕ → ℕ → ℕ → Source
source_of [] number at = if at == 0 then unknown else counter at
source_of file number at = line file number

-- ---- what a run begins with

-- of no profile nothing
abbrev pub head_of : Option Profile → ℕ → ℕ → ℕ → List ℕ → List ℕ
head_of None base memory budget words = []
head_of (Some profile) base memory budget words = head_text profile base memory budget words

-- ---- an event

-- it is performed, or refused with the machine as it was
abbrev pub Ends : Tagged → Event → Result Answer Refusal → Tagged → Type 0
Ends t event (Ok answer) u = Performs t event answer u
Ends t event (Err refusal) u = Refuses (present_of t) event refusal × (u ≡ t)

-- as the call gives it
abbrev pub outcome_of : Result Answer Refusal → Result Answer Refused
outcome_of (Ok answer) = Ok answer
outcome_of (Err refusal) = Err (of_event refusal)

-- its line
abbrev pub text_of : Event → Result Answer Refusal → Source → List ℕ
text_of event (Ok answer) source = event_text event answer source
text_of event (Err refusal) source = refused_text event refusal source

-- it ends so, and its line is told
pub record KeepsHeld (t : Tagged) (event : Event) (source : Source) (text : Text) (outcome : Result Answer Refused)
    (u : Tagged) : Type 0 where
  pub plain : Result Answer Refusal
  pub ends : Ends t event plain u
  pub given : outcome ≡ outcome_of plain
  pub told : Says text (text_of event plain source)

-- an event on what is held; where no machine is held nothing is told
abbrev pub Keeps : Option Tagged → Event → Source → Text → Result Answer Refused → Option Tagged → Type 0
Keeps None event source text outcome after = (outcome ≡ Err NoMachine) × (after ≡ None) × (said text ≡ [])
Keeps (Some t) event source text outcome after =
    (u : Tagged) × KeepsHeld t event source text outcome u × (after ≡ Some u)

-- the call, of which only the number is given
abbrev pub KeepsCall : Option Tagged → Event → Source → Text → ℕ → Option Tagged → Type 0
KeepsCall held event source text code after =
    (outcome : Result Answer Refused) × Keeps held event source text outcome after × (code ≡ number outcome)

-- the call for a read, whose value is given too
abbrev pub KeepsRead : Option Tagged → ℕ → Source → Text → ℕ → ℕ → ℕ → Option Tagged → Type 0
KeepsRead held offset source text old code new after =
    (outcome : Result Answer Refused) × Keeps held (reads offset) source text outcome after
    × Shows (value_read outcome) old code new

-- ---- steps back

-- the lines of n steps back, of which as many are taken as there are
abbrev pub back_of : Option Tagged → ℕ → Source → List ℕ
back_of None n source = []
back_of (Some t) n source = back_text n (min n (length t.traced.view.past)) source
