-- How the turns of a list are taken, one after the other.
use Rattle.std.proofs.Common.{◌≡◌, ◌∙◌, ℕ, ◌+◌, List, [], ◌∷◌, ◌++◌, Err, refl, sym, ap, subst}
use Rattle.std.proofs.Common.{inl, inr, append-nil}
use Rattle.em_step.specs.Event.{Event, arrives}
use Rattle.em_step.specs.Cost.{cost}
use Rattle.em_step.specs.State.{State}
use Rattle.em_step.specs.Step.{step, Refuses}
use Rattle.em_step.specs.declared.event.Answer.{Answer}
use Rattle.em_step.specs.declared.event.Answer.TheVariants.{Stored}
use Rattle.em_step.specs.declared.refusal.Refusal.{Refusal}
use Rattle.em_step.specs.declared.refusal.Refusal.TheVariants.{NoRegister, Range, Length, DmaRange, Extended}
use Rattle.em_step.specs.declared.refusal.Refusal.TheVariants.{TooLong, Memory}
use Rattle.em_journal.specs.History.{performs, refuses, Does}
use Rattle.em_journal.specs.View.{View, after_event}
use Rattle.em_driver.specs.Taking.{Takes, outcome_of, world_with}
use Rattle.em_turn.specs.Turn.{event_of, stored_by}
use Rattle.em_driver.specs.World.{World, after_outcome, after_turn, after_turns}
use Rattle.em_turn.specs.declared.turn.Turn.{Turn}
use Rattle.em_turn.specs.declared.turn.Turn.TheVariants.{Arrive}
use Rattle.em_driver.specs.declared.taking.Counts.{Counts}
use Rattle.em_driver.specs.declared.taking.TurnOutcome.{TurnOutcome}
use Rattle.em_driver.specs.declared.taking.TurnOutcome.TheVariants.{Performed, Refused}

-- ---- one turn

pub takes_performed : (v w : View) (stored now : List (List ℕ)) (t : Turn) (answer : Answer)
    → Does v (performs (event_of t) answer) w → now ≡ stored ++ stored_by t answer
    → Takes v stored t Performed w now
takes_performed v w stored now t answer did is = (answer, w.present, did.0, did.1, is)

pub takes_arrival : (v w : View) (stored now : List (List ℕ)) (f octets : List ℕ) (answer : Answer) → octets ≡ f
    → Does v (performs (arrives octets) answer) w → now ≡ stored ++ stored_by (Arrive f) answer
    → Takes v stored (Arrive f) Performed w now
takes_arrival v w stored now f octets answer same did is =
    takes_performed v w stored now (Arrive f) answer
    (subst (λ o. Does v (performs (arrives o) answer) w) same did) is

pub stored_one : (f : List ℕ) (answer : Answer) → answer ≡ Stored → f ∷ [] ≡ stored_by (Arrive f) answer
stored_one f answer is = ap (stored_by (Arrive f)) (sym is)

-- no other answer stores the frame
pub stored_none : (f : List ℕ) (answer : Answer) → (answer ≡ Stored → ⊥) → [] ≡ stored_by (Arrive f) answer
stored_none f Stored h = absurd (h refl)
stored_none f _ h = refl

pub refused_as : (refusal : Refusal) → (refusal ≡ Memory → ⊥) → Refused ≡ outcome_of refusal
refused_as Memory h = absurd (h refl)
refused_as _ h = refl

by_table : (s : State) (e : Event) (refusal : Refusal) → (refusal ≡ Memory → ⊥) → Refuses s e refusal
    → step s e ≡ Err refusal
by_table s e refusal h (inl lack) = absurd (h lack.0)
by_table s e refusal h (inr is) = is

pub takes_refused : (v w : View) (stored now : List (List ℕ)) (t : Turn) (refusal : Refusal)
    → Does v (refuses (event_of t) refusal) w → now ≡ stored → Takes v stored t (outcome_of refusal) w now
takes_refused v w stored now t Memory did is = (did.0, did.1, is)
takes_refused v w stored now t NoRegister did is =
    (NoRegister, by_table v.present (event_of t) NoRegister (λ h. cc) did.0, did.1, is)
takes_refused v w stored now t Range did is =
    (Range, by_table v.present (event_of t) Range (λ h. cc) did.0, did.1, is)
takes_refused v w stored now t Length did is =
    (Length, by_table v.present (event_of t) Length (λ h. cc) did.0, did.1, is)
takes_refused v w stored now t DmaRange did is =
    (DmaRange, by_table v.present (event_of t) DmaRange (λ h. cc) did.0, did.1, is)
takes_refused v w stored now t Extended did is =
    (Extended, by_table v.present (event_of t) Extended (λ h. cc) did.0, did.1, is)
takes_refused v w stored now t TooLong did is =
    (TooLong, by_table v.present (event_of t) TooLong (λ h. cc) did.0, did.1, is)

-- a step of an engine, which stores nothing
pub engine_performed : (v w : View) (t : Turn) (answer : Answer) → stored_by t answer ≡ []
    → Does v (performs (event_of t) answer) w → (stored : List (List ℕ)) → Takes v stored t Performed w stored
engine_performed v w t answer none did stored =
    takes_performed v w stored stored t answer did
    (sym (append-nil stored) ∙ ap (λ fs. stored ++ fs) (sym none))

pub engine_refused : (v w : View) (t : Turn) (refusal : Refusal) (taken : TurnOutcome) → taken ≡ outcome_of refusal
    → Does v (refuses (event_of t) refusal) w → (stored : List (List ℕ)) → Takes v stored t taken w stored
engine_refused v w t refusal taken is did stored =
    subst (λ x. Takes v stored t x w stored) (sym is) (takes_refused v w stored stored t refusal did refl)

-- ---- one more turn

pub after_one_more : (w : World) (turns : List Turn) (t : Turn)
    → after_turns w (turns ++ t ∷ []) ≡ after_turn (after_turns w turns) t
after_one_more w [] t = refl
after_one_more w (u ∷ turns) t = after_one_more (after_turn w u) turns t

performed_world : (v w : View) (stored now : List (List ℕ)) (counts : Counts) (t : Turn)
    → Takes v stored t Performed w now
    → world_with w now (record { performed = counts.performed + 1; refused = counts.refused })
    ≡ after_turn (world_with v stored counts) t
performed_world v w stored now counts t (answer, s, is, machine, frames) =
    let more : Counts = record { performed = counts.performed + 1; refused = counts.refused } in
    ap (λ m. world_with m now more) machine
    ∙ ap (λ f. world_with (after_event v s (cost v.present (event_of t))) f more) frames
    ∙ ap (after_outcome (world_with v stored counts) t) (sym is)

refused_world : (v w : View) (stored now : List (List ℕ)) (counts : Counts) (t : Turn)
    → Takes v stored t Refused w now
    → world_with w now (record { performed = counts.performed; refused = counts.refused + 1 })
    ≡ after_turn (world_with v stored counts) t
refused_world v w stored now counts t (refusal, is, machine, frames) =
    let more : Counts = record { performed = counts.performed; refused = counts.refused + 1 } in
    ap (λ m. world_with m now more) machine ∙ ap (λ f. world_with v f more) frames
    ∙ ap (after_outcome (world_with v stored counts) t) (sym is)

pub performed_more : (w : World) (turns : List Turn) (v u : View) (stored now : List (List ℕ)) (counts : Counts)
    (t : Turn) → world_with v stored counts ≡ after_turns w turns → Takes v stored t Performed u now
    → world_with u now (record { performed = counts.performed + 1; refused = counts.refused })
    ≡ after_turns w (turns ++ t ∷ [])
performed_more w turns v u stored now counts t here takes =
    performed_world v u stored now counts t takes ∙ ap (λ x. after_turn x t) here ∙ sym (after_one_more w turns t)

pub refused_more : (w : World) (turns : List Turn) (v u : View) (stored now : List (List ℕ)) (counts : Counts)
    (t : Turn) → world_with v stored counts ≡ after_turns w turns → Takes v stored t Refused u now
    → world_with u now (record { performed = counts.performed; refused = counts.refused + 1 })
    ≡ after_turns w (turns ++ t ∷ [])
refused_more w turns v u stored now counts t here takes =
    refused_world v u stored now counts t takes ∙ ap (λ x. after_turn x t) here ∙ sym (after_one_more w turns t)
