-- A machine's view, and what each of its events was.
use Rattle.std.specs.Prelude.{◌≡◌, ◌/◌, ℕ, suc, List, [], ◌∷◌, take, length, slice_get, Some, Ok, refl}
use Rattle.std.specs.Coded.{Coded, code_by, coded×, coded_list}
use Rattle.circular_buffer.specs.Buffer.{Buffer}
use Rattle.em_step.specs.State.{State}
use Rattle.em_step.specs.Event.{Event}
use Rattle.em_step.specs.Step.{step}
use Rattle.em_step.specs.Cost.{least_cost}
use Rattle.em_step.specs.declared.event.Answer.{Answer}
use Rattle.em_journal.specs.View.{View, view_without}
use Rattle.em_journal.specs.History.{Does, performs, goes_back}
use Rattle.em_trail.specs.declared.note.Note.{Note}
use Rattle.em_trail.specs.Dma.{dma_of}
use Rattle.em_trail.specs.Note.{note_of}

pub record Trail : Type 0 where
  -- what the machine shows
  pub view : View
  -- what the events of its journal were, the newest first
  pub notes : List Note

-- as the pair of its fields
abbrev pub trail_code : Coded View → Coded Note → Coded Trail
trail_code v c =
    code_by (View × List Note) (coded× v (coded_list c)) (λ t. (t.view, t.notes))
    (λ p. record { view = p.0; notes = p.1 }) (λ _. refl)

-- the event that the note tells of led from one state to the next
pub record Tells (note : Note) (before after : State) : Type 0 where
  pub event : Event
  pub answer : Answer
  pub tag : ℕ
  pub stepped : step before event ≡ Ok (answer, after)
  pub noted : note ≡ note_of (dma_of before event) event answer tag

-- as many notes as states to go back to, and each tells of the event that led away from the state beside it
abbrev pub IsTrail : State → List State → List Note → Type 0
IsTrail present [] [] = Unit {0}
IsTrail present (before ∷ past) (note ∷ notes) = Tells note before present × IsTrail before past notes
IsTrail present [] (note ∷ notes) = ⊥
IsTrail present (before ∷ past) [] = ⊥

-- of notes that begin with the newest, those that stand beside a machine's states to go back to
abbrev pub newest : View → List Note → List Note
newest view notes = take (length view.past) notes

-- the ring's newest notes are the trail of a machine, and it has as many places as the journal can have records
pub record HoldsTrail (ring : Buffer Note) (view : View) : Type 0 where
  pub trail : IsTrail view.present view.past (newest view ring.items)
  -- no record costs less
  pub places : ring.capacity ≡ view.budget / least_cost

-- a machine that has performed nothing
abbrev pub starting : View → Trail
starting view = record { view = view; notes = [] }

-- in each state the first k frames are without their octets; the notes stay
abbrev pub trail_without : ℕ → Trail → Trail
trail_without k t = record t { view = view_without k t.view }

-- an event was performed: its note comes first, and as many stay as the journal has records
pub record Noted (old new : Trail) (tag : ℕ) (event : Event) (answer : Answer) : Type 0 where
  pub performed : Does old.view (performs event answer) new.view
  pub notes : new.notes ≡ take (length new.view.past) (note_of (dma_of old.view.present event) event answer tag ∷ old.notes)

-- the newest event was taken back, and the note told of it
pub record TakesBack (old new : Trail) (note : Note) : Type 0 where
  pub went : Does old.view goes_back new.view
  pub told : old.notes ≡ note ∷ new.notes

-- the k-th newest note tells of the event that led from one of these states to the state before it
pub record TellsAt (states : List State) (k : ℕ) (note : Note) : Type 0 where
  pub before : State
  pub after : State
  pub led_from : slice_get states (suc k) ≡ Some before
  pub led_to : slice_get states k ≡ Some after
  pub tells : Tells note before after
