-- What performing an event leaves, and what refusing it leaves.
use Rattle.std.specs.Prelude.{◌≡◌, ℕ, ◌+◌, List, Ok}
use Rattle.em_mem.specs.OldOctets.{OldOctets}
use Rattle.em_step.specs.Arrival.{octets_stored}
use Rattle.em_step.specs.Cells.{Cells, MorePages, shows}
use Rattle.em_step.specs.Cost.{cost, cost_of, least_cost}
use Rattle.em_step.specs.Event.{Event}
use Rattle.em_step.specs.State.{State}
use Rattle.em_step.specs.Step.{Refuses, step}
use Rattle.em_step.specs.Undo.{IsPlain, Reverses, Undo, undo_of}
use Rattle.em_step.specs.declared.undo.Record.{Record}
use Rattle.em_step.specs.declared.event.Answer.{Answer}
use Rattle.em_step.specs.declared.event.Answer.TheVariants.{Stored}
use Rattle.em_step.specs.declared.refusal.Refusal.{Refusal}
use Rattle.em_step.specs.declared.refusal.Refusal.TheVariants.{Memory}

-- the event answered so, and led from the old cells to the new ones; the record costs what the event does, and takes
-- it back
pub record WasPerformed (old : Cells) (e : Event) (new : Cells) (answer : Answer) (r : Undo) : Type 0 where
  pub ok : step (shows old) e ≡ Ok (answer, shows new)
  pub cost : cost_of r ≡ cost (shows old) e
  pub reverses : Reverses old new r

-- the same by its record, for which no octets were saved, so that it means the same whatever others were
pub record PerformedPlainly (old : Cells) (e : Event) (new : Cells) (answer : Answer) (r : Record) : Type 0 where
  pub plain : IsPlain r
  pub performed : (o : OldOctets) → WasPerformed old e new answer (undo_of r o)

-- the event was refused so, and nothing changed that is shown
pub record WasRefused (old : Cells) (e : Event) (new : Cells) (refusal : Refusal) : Type 0 where
  pub err : Refuses (shows old) e refusal
  pub same : MorePages old new

-- ---- of a frame that arrives

-- this became of it; the record costs as many octets as were stored, and takes it back
pub record BecameOf (old : Cells) (f : List ℕ) (outcome : Answer × State) (new : Cells) (answer : Answer) (r : Undo)
    : Type 0 where
  pub ok : outcome ≡ (answer, shows new)
  pub cost : cost_of r ≡ least_cost + octets_stored (shows old) f answer
  pub reverses : Reverses old new r

-- it would be stored, for which memory was wanting
abbrev pub LacksMemory : Answer × State → Refusal → Type 0
LacksMemory outcome refusal = (refusal ≡ Memory) × (outcome.0 ≡ Stored)
