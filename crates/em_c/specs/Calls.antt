-- What a call does to the machine that a handle holds, and the number that it gives.
use Rattle.std.specs.Prelude.{◌≡◌, ℕ, Option, Some, None, Result, Ok, Err, length, min}
use Rattle.em_step.specs.Event.{Event, reads}
use Rattle.em_step.specs.Step.{Refuses}
use Rattle.em_step.specs.declared.event.Answer.{Answer}
use Rattle.em_step.specs.declared.refusal.Refusal.{Refusal}
use Rattle.em_trail.specs.Note.{value_of}
use Rattle.em_trail.specs.declared.note.Note.{Note}
use Rattle.em_c.specs.declared.note.EmNote.{EmNote}
use Rattle.em_c.specs.declared.refused.Refused.{Refused}
use Rattle.em_c.specs.declared.refused.Refused.TheVariants.{NoMachine}
use Rattle.em_c.specs.declared.tagged.Tagged.{Tagged}
use Rattle.em_c.specs.Note.{told_note}
use Rattle.em_c.specs.Refused.{number, of_event, Shows}
use Rattle.em_c.specs.Tagged as one
use Rattle.em_c.specs.Tagged.{after_backs, present_of}

-- An event is performed as the machine performs it, or refused as the machine refuses it, with the machine unchanged. A
-- handle that holds no machine refuses it by a reason of its own.
abbrev pub Performs : Option Tagged → Event → Result Answer Refused → Option Tagged → Type 0
Performs None event outcome after = (outcome ≡ Err NoMachine) × (after ≡ None)
Performs (Some t) event (Ok answer) after = (u : Tagged) × one.Performs t event answer u × (after ≡ Some u)
Performs (Some t) event (Err refused) after =
    (refusal : Refusal) × Refuses (present_of t) event refusal × (refused ≡ of_event refusal) × (after ≡ Some t)

-- a call for an event, of which nothing is told
abbrev pub Calls : Option Tagged → Event → ℕ → Option Tagged → Type 0
Calls held event code after =
    (outcome : Result Answer Refused) × Performs held event outcome after × (code ≡ number outcome)

-- what a read gave
abbrev pub value_read : Result Answer Refused → Result ℕ Refused
value_read (Ok answer) = Ok (value_of answer)
value_read (Err refused) = Err refused

-- a call for a read, whose value is told
abbrev pub Reads : Option Tagged → ℕ → ℕ → ℕ → ℕ → Option Tagged → Type 0
Reads held offset old code new after =
    (outcome : Result Answer Refused) × Performs held (reads offset) outcome after
    × Shows (value_read outcome) old code new

-- an event that is performed is told as its note tells it
abbrev pub Tells : Option Tagged → Event → Result EmNote Refused → Option Tagged → Type 0
Tells None event outcome after = (outcome ≡ Err NoMachine) × (after ≡ None)
Tells (Some t) event (Ok told) after =
    (u : Tagged) × (note : Note) × one.IsNoteOf t event u note × (told ≡ told_note note) × (after ≡ Some u)
Tells (Some t) event (Err refused) after =
    (refusal : Refusal) × Refuses (present_of t) event refusal × (refused ≡ of_event refusal) × (after ≡ Some t)

-- a call for an event, which is told
abbrev pub CallsAndTells : Option Tagged → Event → EmNote → ℕ → EmNote → Option Tagged → Type 0
CallsAndTells held event old code new after =
    (outcome : Result EmNote Refused) × Tells held event outcome after × Shows outcome old code new

-- how many steps back are taken of n
abbrev pub steps_back : Option Tagged → ℕ → Result ℕ Refused
steps_back None n = Err NoMachine
steps_back (Some t) n = Ok (min n (length t.traced.view.past))

-- what is held after n steps back, or as many as there are
abbrev pub held_back : Option Tagged → ℕ → Option Tagged
held_back None n = None
held_back (Some t) n = Some (after_backs n t)
