-- Frames that were lost: by the answer of the line that brought them, and by notes of a driver's call.
use Rattle.std.specs.Prelude.{◌≡◌, ℕ, ◌<◌, min, Bool, true, false, length, Option, Some, None}
use Rattle.em_step.specs.declared.event.Answer.{Answer}
use Rattle.em_step.specs.declared.event.Answer.TheVariants as answer
use Rattle.em_journal.specs.View.{states}
use Rattle.em_trail.specs.Trail.{TellsAt}
use Rattle.em_trail.specs.declared.note.Note.{Note}
use Rattle.em_trail.specs.declared.note.Kind.{Kind}
use Rattle.em_trail.specs.declared.note.Kind.TheVariants.{Dropped}
use Rattle.em_script.specs.declared.outcome.Outcome.{Outcome}
use Rattle.em_script.specs.declared.outcome.Outcome.TheVariants.{Answered}
use Rattle.em_named.specs.Numbers.{performed_by}
use Rattle.em_named.specs.declared.did.Did.{Did}
use Rattle.em_tape.specs.Tape.{Tape, line_at}

-- an answer that says that a frame was dropped
abbrev pub is_dropped : Answer → Bool
is_dropped (answer.Dropped reason) = true
is_dropped _ = false

-- an event of this kind brought a frame that was dropped
abbrev pub is_lost : Kind → Bool
is_lost (Dropped reason) = true
is_lost _ = false

-- of the newest n events none did: a note tells so of each
abbrev pub NoneLost : Tape → ℕ → Type 0
NoneLost tape n =
    (k : ℕ) → k < n → (note : Note) × (TellsAt (states tape.session.machine) k note × (is_lost note.kind ≡ false))

-- one of them did, by its note
pub record OneLost (tape : Tape) (n : ℕ) : Type 0 where
  pub steps : ℕ
  pub within : steps < n
  pub note : Note
  pub tells : TellsAt (states tape.session.machine) steps note
  pub lost : is_lost note.kind ≡ true

abbrev pub LostSo : Tape → ℕ → Bool → Type 0
LostSo tape n true = OneLost tape n
LostSo tape n false = NoneLost tape n

-- how many events a line performed, of which this is known or not
abbrev pub performed_of : Option Did → ℕ
performed_of None = 0
performed_of (Some did) = performed_by did

-- how many of them the journal holds, where they are the newest
abbrev pub held_of : ℕ → Tape → ℕ
held_of line tape = min (performed_of (line_at line tape.did)) (length tape.session.machine.past)

-- Whether a line lost a frame that came out so, and of whose events the newest n are held: a line that is an event did where
-- its answer says so, and any other, as a call of a driver, where a note of one of its events does.
abbrev pub LosesSo : Outcome → ℕ → Tape → Bool → Type 0
LosesSo (Answered a) n tape lost = lost ≡ is_dropped a
LosesSo _ n tape lost = LostSo tape n lost
