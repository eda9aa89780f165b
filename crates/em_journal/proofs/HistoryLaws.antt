-- What calls leave, against the events that were performed and not taken back.
use Rattle.std.proofs.Common.{◌≡◌, ℕ, ◌-◌, ◌<◌, zero, suc, List, [], ◌∷◌, ◌++◌, length, take, drop, Some, Ok}
use Rattle.std.proofs.Common.{refl, sym, ap, ◌∙◌, subst, arith}
use Rattle.std.specs.Prelude.{slice_get, ◌↔◌}
use Rattle.std.proofs.lemmas.List.{take_at, take_all, take-take, length-take, length-take-le, length_push, length-drop}
use Rattle.em_step.specs.State.{State}
use Rattle.em_step.specs.Event.{Event}
use Rattle.em_step.specs.Step.{step, Refuses}
use Rattle.em_step.specs.Cost.{cost}
use Rattle.em_step.specs.declared.event.Answer.{Answer}
use Rattle.em_step.specs.declared.refusal.Refusal.{Refusal}
use Rattle.em_journal.specs.View.{View, opening, states, back_to, reach, costs_within}
use Rattle.em_journal.specs.History.{Call, performs, refuses, goes_back, is_empty, Does, Run, Leads, without_last}
use Rattle.em_journal.specs.History.{events_after, kept_events, after_step, state, costs_after, held_costs}

-- ---- lists of events

state-push : (s : State) (events : List Event) (e : Event)
    → state s (events ++ e ∷ []) ≡ after_step (state s events) (step (state s events) e)
state-push s [] e = refl
state-push s (a ∷ events) e = state-push (after_step s (step s a)) events e

without_last-push : (events : List Event) (e : Event) → without_last 1 (events ++ e ∷ []) ≡ events
without_last-push events e =
    take_at events (e ∷ []) (length (events ++ e ∷ []) - 1) (omega (arith, length_push events e))

-- the states before the last events, the newest first
abbrev IsHistory : State → List State → List Event → Type 0
IsHistory s [] events = Unit {0}
IsHistory s (p ∷ ps) events =
    (0 < length events) × (p ≡ state s (without_last 1 events)) × IsHistory s ps (without_last 1 events)

IsHistory-take : (n : ℕ) (s : State) (ps : List State) (events : List Event)
    → IsHistory s ps events → IsHistory s (take n ps) events
IsHistory-take zero s ps events h = tt
IsHistory-take (suc n) s [] events h = tt
IsHistory-take (suc n) s (p ∷ ps) events h = (h.0, h.1, IsHistory-take n s ps (without_last 1 events) h.2)

-- ---- where a view stands

-- It is at the state that the events lead to, with states before their last ones; it holds these costs, one for each.
pub record Stands (budget : ℕ) (s : State) (events : List Event) (costs : List ℕ) (v : View) : Type 0 where
  pub budget_is : v.budget ≡ budget
  pub present : v.present ≡ state s events
  pub past : IsHistory s v.past events
  pub costs_are : v.costs ≡ costs
  pub many : length v.past ≡ length v.costs

stands_first : (budget : ℕ) (s : State) → Stands budget s [] [] (opening budget s)
stands_first budget s = record { budget_is = refl; present = refl; past = tt; costs_are = refl; many = refl }

stands_event : {budget : ℕ} {s : State} {events : List Event} {costs : List ℕ} {v : View} {w : View} {answer : Answer}
    (e : Event) → Stands budget s events costs v → Does v (performs e answer) w
    → Stands budget s (events ++ e ∷ []) (costs_within budget (cost (state s events) e ∷ costs)) w
stands_event {budget} {s} {events} {costs} {v} {w} e h does =
    let n = reach v.budget (cost v.present e ∷ v.costs) in
    let led : w.present ≡ state s (events ++ e ∷ [])
    = ap (after_step v.present) (sym does.0) ∙ ap (λ p. after_step p (step p e)) h.present
    ∙ sym (state-push s events e) in
    let some : 0 < length (events ++ e ∷ []) = omega (arith, length_push events e) in
    let here = h.present ∙ ap (state s) (sym (without_last-push events e)) in
    let rest = subst (IsHistory s v.past) (sym (without_last-push events e)) h.past in
    let all : IsHistory s (states v) (events ++ e ∷ []) = (some, here, rest) in
    let past = ap (λ x. length x.past) does.1 ∙ length-take n (states v) in
    let costs_many = ap (λ x. length x.costs) does.1 ∙ length-take n (cost v.present e ∷ v.costs) in
    let held : w.costs ≡ costs_within budget (cost (state s events) e ∷ costs)
    = ap (λ x. x.costs) does.1 ∙ ap (λ b. costs_within b (cost v.present e ∷ v.costs)) h.budget_is
    ∙ ap (λ p. costs_within budget (cost p e ∷ v.costs)) h.present
    ∙ ap (λ cs. costs_within budget (cost (state s events) e ∷ cs)) h.costs_are in
    record {
      budget_is = ap (λ x. x.budget) does.1 ∙ h.budget_is;
      present = led;
      past = subst (λ x. IsHistory s x.past (events ++ e ∷ [])) (sym does.1)
          (IsHistory-take n s (states v) (events ++ e ∷ []) all);
      costs_are = held;
      many = omega (arith, past, costs_many, h.many);
    }

stands_back : {budget : ℕ} {s : State} {events : List Event} {costs : List ℕ} (v : View) (past : List State)
    → v.past ≡ past → 0 < length past → Stands budget s events costs v
    → Stands budget s (without_last 1 events) (drop 1 costs) (back_to past v)
stands_back v [] is some h = absurd (omega arith)
stands_back {budget} {s} {events} {costs} v (p ∷ past) is some h =
    let older : IsHistory s (p ∷ past) events = subst (λ x. IsHistory s x events) is h.past in
    record {
      budget_is = h.budget_is;
      present = older.1;
      past = older.2;
      costs_are = ap (drop 1) h.costs_are;
      many = omega (arith, ap length is, h.many, length-drop 1 v.costs);
    }

-- the one induction over a run
stands_run : {budget : ℕ} {s : State} (calls : List Call) {events : List Event} {costs : List ℕ} {v : View} {w : View}
    → Stands budget s events costs v → Run v calls w
    → Stands budget s (events_after events calls) (costs_after budget s events costs calls) w
stands_run {budget} {s} [] {events} {costs} h run = subst (Stands budget s events costs) (sym run) h
stands_run (performs e answer ∷ calls) h run = stands_run calls (stands_event e h run.1) run.2
stands_run {budget} {s} (refuses e refusal ∷ calls) {events} {costs} h run =
    stands_run calls (subst (Stands budget s events costs) (sym run.1.1) h) run.2
stands_run {budget} {s} (goes_back ∷ calls) {events} {costs} {v} h run =
    let back = stands_back v v.past refl run.1.0 h in
    stands_run calls (subst (Stands budget s (without_last 1 events) (drop 1 costs)) (sym run.1.1) back) run.2
stands_run {budget} {s} (is_empty ∷ calls) {events} {costs} h run =
    stands_run calls (subst (Stands budget s events costs) (sym run.1.1) h) run.2

stands : (budget : ℕ) (s : State) (calls : List Call) (v : View) → Leads budget s calls v
    → Stands budget s (kept_events calls) (held_costs budget s calls) v
stands budget s calls v run = stands_run calls (stands_first budget s) run

-- ---- what follows of the view

-- item i of the states
item : (s q : State) (qs : List State) (events : List Event) (i : ℕ) → q ≡ state s events → IsHistory s qs events
    → i < suc (length qs) → slice_get (q ∷ qs) i ≡ Some (state s (without_last i events))
item s q qs events zero is h l = ap Some (is ∙ ap (state s) (sym (take_all (length events - 0) events (omega arith))))
item s q [] events (suc i) is h l = absurd (omega arith)
item s q (p ∷ ps) events (suc i) is h l =
    let rest = without_last 1 events in
    let len : length rest ≡ length events - 1 = length-take-le (length events - 1) events (omega arith) in
    let cut : take (length rest - i) rest ≡ take (length events - suc i) events
    = take-take (length rest - i) (length events - 1) events (omega arith) ∙ ap (λ n. take n events) (omega arith) in
    item s p ps rest i h.1 h.2 (omega arith) ∙ ap (λ x. Some (state s x)) cut

pub item_is : (budget : ℕ) (s : State) (calls : List Call) (v : View) → Leads budget s calls v
    → (i : ℕ) → i < length (states v) → slice_get (states v) i ≡ Some (state s (without_last i (kept_events calls)))
item_is budget s calls v run i l =
    let h = stands budget s calls v run in
    item s v.present v.past (kept_events calls) i h.present h.past l

pub costs_are : (budget : ℕ) (s : State) (calls : List Call) (v : View) → Leads budget s calls v
    → v.costs ≡ held_costs budget s calls
costs_are budget s calls v run = (stands budget s calls v run).costs_are

pub past_length : (budget : ℕ) (s : State) (calls : List Call) (v : View) → Leads budget s calls v
    → length v.past ≡ length (held_costs budget s calls)
past_length budget s calls v run =
    let h = stands budget s calls v run in
    h.many ∙ ap length h.costs_are

-- two lists of one length are empty together
empty_of_length : {A B : Type 0} (xs : List A) (ys : List B) → length xs ≡ length ys → ys ≡ [] → xs ≡ []
empty_of_length [] ys len is = refl
empty_of_length (x ∷ xs) ys len is = absurd (omega (arith, len, ap length is))

pub empty_past : (budget : ℕ) (s : State) (calls : List Call) (v : View) → Leads budget s calls v
    → (v.past ≡ []) ↔ (held_costs budget s calls ≡ [])
empty_past budget s calls v run =
    let held = held_costs budget s calls in
    let len = past_length budget s calls v run in
    (empty_of_length held v.past (sym len), empty_of_length v.past held len)

-- ---- lists of calls, one after the other

pub run_join : (u v w : View) (calls more : List Call) → Run u calls v → Run v more w → Run u (calls ++ more) w
run_join u v w [] more run next = subst (λ x. Run x more w) run next
run_join u v w (call ∷ calls) more run next = (run.0, run.1, run_join run.0 v w calls more run.2 next)

run_cut : (u w : View) (calls more : List Call) → Run u (calls ++ more) w → (v : View) × Run u calls v × Run v more w
run_cut u w [] more run = (u, refl, run)
run_cut u w (call ∷ calls) more run =
    let cut = run_cut run.0 w calls more run.2 in
    (cut.0, (run.0, run.1, cut.1), cut.2)

pub answer_is : (budget : ℕ) (s : State) (calls rest : List Call) (e : Event) (answer : Answer) (v : View)
    → Leads budget s (calls ++ performs e answer ∷ rest) v
    → (t : State) × (step (state s (kept_events calls)) e ≡ Ok (answer, t))
answer_is budget s calls rest e answer v run =
    let cut = run_cut (opening budget s) v calls (performs e answer ∷ rest) run in
    let h = stands budget s calls cut.0 cut.1 in
    (cut.2.0.present, ap (λ p. step p e) (sym h.present) ∙ cut.2.1.0)

pub refusal_is : (budget : ℕ) (s : State) (calls rest : List Call) (e : Event) (refusal : Refusal) (v : View)
    → Leads budget s (calls ++ refuses e refusal ∷ rest) v → Refuses (state s (kept_events calls)) e refusal
refusal_is budget s calls rest e refusal v run =
    let cut = run_cut (opening budget s) v calls (refuses e refusal ∷ rest) run in
    let h = stands budget s calls cut.0 cut.1 in
    subst (λ p. Refuses p e refusal) h.present cut.2.1.0
