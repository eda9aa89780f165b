-- Why an event did nothing: which event it was, what came of it, and what is told.
use Rattle.std.specs.Prelude.{◌≡◌, ℕ, ◌==◌, ◌||◌, ◌^◌, nat_lt, true, false, if◌then◌else◌, List, Option, Some, None}
use Rattle.std.specs.Prelude.{◌&&◌, Result, Ok, Err}
use Rattle.em_step.specs.Event.{Event, reads, writes, pokes, arrives, links, receives, transmits}
use Rattle.em_step.specs.declared.event.Answer.{Answer}
use Rattle.em_step.specs.declared.event.Answer.TheVariants.{Idle, Dropped}
use Rattle.em_step.specs.declared.event.Reason.TheVariants as reason
use Rattle.em_step.specs.declared.refusal.Refusal.{Refusal}
use Rattle.em_step.specs.declared.refusal.Refusal.TheVariants as refusal
use Rattle.em_journal.specs.View.{View}
use Rattle.em_reasons.specs.Undone.{undone_of}
use Rattle.em_reasons.specs.Why.{IsWhyOf}
use Rattle.em_reasons.specs.declared.why.Why.{Why}
use Rattle.em_c.specs.declared.note.EmNote.{EmNote}
use Rattle.em_c.specs.declared.reason.EmReason.{EmReason}
use Rattle.em_c.specs.declared.refused.Refused.{Refused}
use Rattle.em_c.specs.declared.refused.Refused.TheVariants.{NoMachine}
use Rattle.em_c.specs.declared.tagged.Tagged.{Tagged}
use Rattle.em_c.specs.Line.{IsTold}
use Rattle.em_c.specs.Reason.{reason_told}

-- ---- which event it was, by its kind; a memory write and an arrival also by their octets

-- an access of the register at an offset
abbrev pub access_at : ℕ → Event → Option Event
access_at at event = if nat_lt at (2 ^ 32) then Some event else None

abbrev pub event_of : EmNote → List ℕ → Option Event
event_of e octets =
    if e.kind == 1 then access_at e.at (reads e.at)
    else if e.kind == 2 then access_at e.at (writes e.at e.value)
    else if e.kind == 3 then Some (pokes e.at octets)
    else if e.kind == 4 then Some (links true)
    else if e.kind == 5 then Some (links false)
    else if e.kind == 6 || e.kind == 7 then Some receives
    else if e.kind == 8 || e.kind == 9 || e.kind == 10 then Some transmits
    else if nat_lt 10 e.kind && nat_lt e.kind 18 then Some (arrives octets)
    else None

-- ---- what came of it, where it did nothing

abbrev pub idle_or_dropped : ℕ → Option (Result Answer Refusal)
idle_or_dropped kind =
    if kind == 6 || kind == 8 then Some (Ok Idle)
    else if kind == 12 then Some (Ok (Dropped reason.Down))
    else if kind == 13 then Some (Ok (Dropped reason.Disabled))
    else if kind == 14 then Some (Ok (Dropped reason.Rejected))
    else if kind == 15 then Some (Ok (Dropped reason.Undersize))
    else if kind == 16 then Some (Ok (Dropped reason.Oversize))
    else if kind == 17 then Some (Ok (Dropped reason.Missed))
    else None

-- by the number that its call gave, and where that is 0 by its kind
abbrev pub came_of : ℕ → ℕ → Option (Result Answer Refusal)
came_of code kind =
    if code == 0 then idle_or_dropped kind
    else if code == 1 then Some (Err refusal.NoRegister)
    else if code == 2 then Some (Err refusal.Range)
    else if code == 3 then Some (Err refusal.Length)
    else if code == 4 then Some (Err refusal.DmaRange)
    else if code == 5 then Some (Err refusal.Extended)
    else if code == 6 then Some (Err refusal.TooLong)
    else if code == 9 then Some (Err refusal.Memory)
    else None

-- ---- what is told

-- the reason of em_explain, of an event that came to nothing in this state; no rule's text has no room
abbrev pub GivesReason : View → EmNote → ℕ → List ℕ → Result EmReason Refused → Type 0
GivesReason v e code octets outcome =
    (why : Option Why) × IsWhyOf v.present (event_of e octets) (undone_of (came_of code e.kind)) why
    × IsTold outcome (reason_told why)

-- of the machine that is held
abbrev pub HeldReason : Option Tagged → EmNote → ℕ → List ℕ → Result EmReason Refused → Type 0
HeldReason None e code octets outcome = outcome ≡ Err NoMachine
HeldReason (Some t) e code octets outcome = GivesReason t.traced.view e code octets outcome
