-- What becomes of the turns of a list, for the machine and the list of stored frames alone.
use Rattle.std.specs.Prelude.{◌≡◌, ℕ, Bool, true, false, List, [], ◌∷◌, ◌++◌, Ok, Err, None}
use Rattle.em_step.specs.Cost.{cost}
use Rattle.em_step.specs.State.{State}
use Rattle.em_step.specs.Step.{step, Refuses}
use Rattle.em_step.specs.declared.event.Answer.{Answer}
use Rattle.em_step.specs.declared.refusal.Refusal.{Refusal}
use Rattle.em_step.specs.declared.refusal.Refusal.TheVariants as refusal
use Rattle.em_journal.specs.View.{View, after_event}
use Rattle.em_turn.specs.Turn.{event_of, stored_by}
use Rattle.em_driver.specs.World.{World, after_turns}
use Rattle.em_turn.specs.declared.turn.Turn.{Turn}
use Rattle.em_driver.specs.declared.taking.Counts.{Counts}
use Rattle.em_driver.specs.declared.taking.TurnOutcome.{TurnOutcome}
use Rattle.em_driver.specs.declared.taking.TurnOutcome.TheVariants.{Performed, Refused, Starved}

-- what a refused turn is counted as
abbrev pub outcome_of : Refusal → TurnOutcome
outcome_of refusal.Memory = Starved
outcome_of _ = Refused

-- a turn was performed, or refused by the table, or found no memory
abbrev pub Takes : View → List (List ℕ) → Turn → TurnOutcome → View → List (List ℕ) → Type 0
Takes v stored t Performed w now =
    (answer : Answer) × (s : State) × (step v.present (event_of t) ≡ Ok (answer, s))
    × (w ≡ after_event v s (cost v.present (event_of t))) × (now ≡ stored ++ stored_by t answer)
Takes v stored t Refused w now =
    (refusal : Refusal) × (step v.present (event_of t) ≡ Err refusal) × (w ≡ v) × (now ≡ stored)
Takes v stored t Starved w now = Refuses v.present (event_of t) refusal.Memory × (w ≡ v) × (now ≡ stored)

-- a machine's world with no plan left
abbrev pub world_with : View → List (List ℕ) → Counts → World
world_with v stored counts = record {
  machine = v;
  stored = stored;
  plan = [];
  spared = None;
  performed = counts.performed;
  refused = counts.refused;
  starved = false;
  scarce = true;
}

-- all turns of a list were taken, or those before the one that found no memory
abbrev pub AreTaken : World → List Turn → List Turn → Bool → Type 0
AreTaken w turns taken true = taken ≡ turns
AreTaken w turns taken false =
    (wanting : Turn) × (dropped : List Turn) × (turns ≡ taken ++ wanting ∷ dropped)
    × Refuses (after_turns w taken).machine.present (event_of wanting) refusal.Memory

-- what is left of the world, and whether all were taken
pub record TakesAll (w : World) (turns : List Turn) (whole : Bool) (v : World) : Type 0 where
  pub taken : List Turn
  pub is : v ≡ after_turns w taken
  pub which : AreTaken w turns taken whole
