-- What calls do to a view, and what becomes of their events.
use Rattle.std.specs.Prelude.{◌≡◌, ℕ, ◌-◌, ◌<◌, List, [], ◌∷◌, ◌++◌, length, take, drop, Result, Ok, Err}
use Rattle.em_step.specs.State.{State}
use Rattle.em_step.specs.Event.{Event}
use Rattle.em_step.specs.Step.{step, Refuses}
use Rattle.em_step.specs.Cost.{cost}
use Rattle.em_step.specs.declared.event.Answer.{Answer}
use Rattle.em_step.specs.declared.refusal.Refusal.{Refusal}
use Rattle.em_journal.specs.View.{View, opening, after_event, after_back, costs_within}

-- a call with its outcome
pub data Call : Type 0 where
  -- an event that was performed, with its answer
  performs : Event → Answer → Call
  -- an event that was refused
  refuses : Event → Refusal → Call
  -- a step back
  goes_back : Call
  -- a step back that was refused, since the journal was empty
  is_empty : Call

-- ---- what one call does to the view

-- An event answers by the table, and its state becomes the present one; it is refused by the table or for want of
-- memory. A step back needs a past. What is refused changes nothing.
abbrev pub Does : View → Call → View → Type 0
Does v (performs e answer) w =
    (step v.present e ≡ Ok (answer, w.present)) × (w ≡ after_event v w.present (cost v.present e))
Does v (refuses e refusal) w = Refuses v.present e refusal × (w ≡ v)
Does v goes_back w = (0 < length v.past) × (w ≡ after_back v)
Does v is_empty w = (v.past ≡ []) × (w ≡ v)

-- the event was performed with this answer, and can be taken back
pub record WasJournalled (v : View) (e : Event) (answer : Answer) (w : View) : Type 0 where
  pub does : Does v (performs e answer) w
  pub kept : 0 < length w.past

-- one after the other
abbrev pub Run : View → List Call → View → Type 0
Run v [] w = w ≡ v
Run v (call ∷ calls) w = (m : View) × Does v call m × Run m calls w

-- from a machine that has performed nothing
abbrev pub Leads : ℕ → State → List Call → View → Type 0
Leads budget s calls v = Run (opening budget s) calls v

-- ---- the events that were performed and not taken back

-- the events without the last i
abbrev pub without_last : ℕ → List Event → List Event
without_last i events = take (length events - i) events

-- a performed event goes last, and a step back drops the last
abbrev pub events_after : List Event → List Call → List Event
events_after events [] = events
events_after events (performs e answer ∷ calls) = events_after (events ++ e ∷ []) calls
events_after events (refuses e refusal ∷ calls) = events_after events calls
events_after events (goes_back ∷ calls) = events_after (without_last 1 events) calls
events_after events (is_empty ∷ calls) = events_after events calls

abbrev pub kept_events : List Call → List Event
kept_events calls = events_after [] calls

-- the state that an event leads to
abbrev pub after_step : State → Result (Answer × State) Refusal → State
after_step s (Ok r) = r.1
after_step s (Err refusal) = s

-- the state that the events lead to, one after the other
abbrev pub state : State → List Event → State
state s [] = s
state s (e ∷ events) = state (after_step s (step s e)) events

-- ---- how far a machine can go back

-- a performed event's cost comes first, and the oldest that the budget does not hold go; a step back drops the newest
abbrev pub costs_after : ℕ → State → List Event → List ℕ → List Call → List ℕ
costs_after budget s events costs [] = costs
costs_after budget s events costs (performs e answer ∷ calls) =
    costs_after budget s (events ++ e ∷ []) (costs_within budget (cost (state s events) e ∷ costs)) calls
costs_after budget s events costs (refuses e refusal ∷ calls) = costs_after budget s events costs calls
costs_after budget s events costs (goes_back ∷ calls) =
    costs_after budget s (without_last 1 events) (drop 1 costs) calls
costs_after budget s events costs (is_empty ∷ calls) = costs_after budget s events costs calls

-- the costs of the events that can be taken back, the newest first
abbrev pub held_costs : ℕ → State → List Call → List ℕ
held_costs budget s calls = costs_after budget s [] [] calls
