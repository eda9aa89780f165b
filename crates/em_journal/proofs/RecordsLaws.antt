-- A chain of records that is cut, or that grows.
use Rattle.std.proofs.Common.{◌≡◌, ℕ, ◌≤◌, ◌<◌, zero, suc, List, [], ◌∷◌, length, take}
use Rattle.std.proofs.Common.{refl, ap, ◌∙◌, sym, subst, arith}
use Rattle.std.specs.Prelude.{Result, Ok, Err, IfErr, Some, drop, slice_get, sum, ◌+◌, ◌/◌}
use Rattle.em_step.proofs.CostLaws.{cost_as}
use Rattle.em_step.proofs.MadePages.{fits_after, undo_after, shows_after}
use Rattle.em_step.specs.Cells.{Cells, shows, MorePages}
use Rattle.em_step.specs.Cost.{cost, cost_by, cost_of, least_cost}
use Rattle.em_journal.specs.Budget.{IsBudget}
use Rattle.em_step.specs.Event.{Event}
use Rattle.em_step.specs.Performed.{PerformedPlainly, WasPerformed}
use Rattle.em_step.specs.Step.{step, Refuses}
use Rattle.em_step.specs.Undo.{Fits, IsPlain, KeepsFor, Undo, held, undo, undo_of, Reverses}
use Rattle.em_step.specs.declared.event.Answer.{Answer}
use Rattle.em_step.specs.declared.refusal.Refusal.{Refusal}
use Rattle.em_journal.specs.History.{goes_back, refuses, Does, WasJournalled}
use Rattle.em_mem.specs.OldOctets.{OldOctets, Saves, given_up}
use Rattle.em_mem.proofs.OldOctetsLaws.{saved_nothing}
use Rattle.em_step.specs.declared.undo.Record.{Record}
use Rattle.em_journal.specs.Records.{back_through, AllFit, AreSaved, HasRoom, costs_by, costs_of, undos_of, view_of, IsJournal}
use Rattle.em_journal.proofs.SavedLaws.{Kept, costs_as, inside, kept_saved, kept_undos, less_room, older_saved, room_before, room_in_ring, waiting}
use Rattle.em_journal.specs.View.{View, reach, after_event}
use Rattle.em_journal.proofs.BudgetLaws.{costs_of-take, sum_cons}

-- ---- more made pages

pub fit_after : (c d : Cells) (rs : List Undo) → MorePages c d → AllFit c rs → AllFit d rs
fit_after c d [] more fit = tt
fit_after c d (r ∷ rs) more fit =
    (fits_after c d r more fit.0, fit_after (undo c r) (undo d r) rs (undo_after c d r more) fit.1)

pub back_after : (c d : Cells) (rs : List Undo) → MorePages c d → back_through d rs ≡ back_through c rs
back_after c d [] more = refl
back_after c d (r ∷ rs) more =
    let rest = undo_after c d r more in
    let here = shows_after (undo c r) (undo d r) rest in
    let below = back_after (undo c r) (undo d r) rs rest in
    λ i. here i ∷ below i

-- ---- a chain that is cut

pub length-back_through : (c : Cells) (rs : List Undo) → length (back_through c rs) ≡ length rs
length-back_through c [] = refl
length-back_through c (r ∷ rs) = ap suc (length-back_through (undo c r) rs)

pub back_through-take : (n : ℕ) (c : Cells) (rs : List Undo) → back_through c (take n rs) ≡ take n (back_through c rs)
back_through-take zero c rs = refl
back_through-take (suc n) c [] = refl
back_through-take (suc n) c (r ∷ rs) = ap (λ past. shows (undo c r) ∷ past) (back_through-take n (undo c r) rs)

pub AllFit-take : (n : ℕ) (c : Cells) (rs : List Undo) → AllFit c rs → AllFit c (take n rs)
AllFit-take zero c rs fit = tt
AllFit-take (suc n) c [] fit = tt
AllFit-take (suc n) c (r ∷ rs) fit = (fit.0, AllFit-take n (undo c r) rs fit.1)

-- ---- an event led from the cells c to d

-- its record r goes first, and of all records those stay that the budget holds
pub record Follows (budget : ℕ) (c d : Cells) (r : Undo) (rs new : List Undo) : Type 0 where
  pub kept : new ≡ take (reach budget (cost_of r ∷ costs_of rs)) (r ∷ rs)
  pub reverses : Reverses c d r

AllFit-event : {budget : ℕ} {c d : Cells} {r : Undo} {rs new : List Undo}
    → Follows budget c d r rs new → AllFit c rs → AllFit d new
AllFit-event {budget} {c} {d} {r} {rs} h fit =
    let all : AllFit d (r ∷ rs) = (h.reverses.fits, fit_after c (undo d r) rs h.reverses.restores fit) in
    subst (AllFit d) (sym h.kept) (AllFit-take (reach budget (cost_of r ∷ costs_of rs)) d (r ∷ rs) all)

back_through-event : {budget : ℕ} {c d : Cells} {r : Undo} {rs new : List Undo} → Follows budget c d r rs new
    → back_through d new ≡ take (reach budget (cost_of r ∷ costs_of rs)) (shows c ∷ back_through c rs)
back_through-event {budget} {c} {d} {r} {rs} h =
    let n = reach budget (cost_of r ∷ costs_of rs) in
    let here = shows_after c (undo d r) h.reverses.restores in
    let below = back_after c (undo d r) rs h.reverses.restores in
    let all : back_through d (r ∷ rs) ≡ shows c ∷ back_through c rs = λ i. here i ∷ below i in
    ap (back_through d) h.kept ∙ back_through-take n d (r ∷ rs) ∙ ap (take n) all

view_event : {budget : ℕ} {c d : Cells} {r : Undo} {rs new : List Undo} {old : View} (e : Event)
    → Follows budget c d r rs new → cost_of r ≡ cost (shows c) e → view_of budget c rs ≡ old
    → view_of budget d new ≡ after_event old (shows d) (cost old.present e)
view_event {budget} {c} {d} {r} {rs} {new} e h same view =
    let n = reach budget (cost_of r ∷ costs_of rs) in
    let past = back_through-event h in
    let costs : costs_of new ≡ take n (cost_of r ∷ costs_of rs) = ap costs_of h.kept ∙ costs_of-take n (r ∷ rs) in
    let made : view_of budget d new ≡ after_event (view_of budget c rs) (shows d) (cost_of r)
    = λ i. record { budget = budget; present = shows d; past = past i; costs = costs i } in
    made ∙ ap (after_event (view_of budget c rs) (shows d)) same
    ∙ ap (λ v. after_event v (shows d) (cost v.present e)) view

-- the record is kept, which leaves the cells
pub journal_event : {budget used capacity : ℕ} {c d left : Cells} {r : Undo} {rs new : List Undo} → left ≡ d
    → IsJournal c rs capacity budget used → Reverses c d r
    → new ≡ take (reach budget (cost_of r ∷ costs_of rs)) (r ∷ rs) → {places now : ℕ} → places ≡ capacity
    → now ≡ sum (costs_of new) → now ≤ budget → IsJournal left new places budget now
journal_event {budget} {used} {capacity} {c} {d} {left} {r} {rs} {new} is old reverses kept {places} {now} same counted
    held =
    subst (λ x. IsJournal x new places budget now) (sym is)
    (record {
      fit = AllFit-event (record { kept = kept; reverses = reverses }) old.fit;
      counted = counted;
      held = held;
      places = same ∙ old.places;
      allowed = old.allowed;
    })

-- so it was performed, and can be taken back
pub event_does : {budget : ℕ} {c d left : Cells} {r : Undo} (rs : List Undo) {new : List Undo} {old : View} (e : Event)
    {answer : Answer} → left ≡ d → WasPerformed c e d answer r
    → new ≡ take (reach budget (cost_of r ∷ costs_of rs)) (r ∷ rs) → 0 < length new → view_of budget c rs ≡ old
    → WasJournalled old e answer (view_of budget left new)
event_does {budget} {d = d} rs {new} {old} e {answer} left_is done kept some view =
    subst (λ x. WasJournalled old e answer (view_of budget x new)) (sym left_is)
    (record {
      does = (
        ap (λ v. step v.present e) (sym view) ∙ done.ok,
        view_event e (record { kept = kept; reverses = done.reverses }) done.cost view,
      );
      kept = subst (λ n. 0 < n) (sym (length-back_through d new)) some;
    })

-- ---- a refused event may leave more pages made

pub journal_same : {budget used capacity : ℕ} {c d : Cells} {rs : List Undo}
    → MorePages c d → IsJournal c rs capacity budget used → IsJournal d rs capacity budget used
journal_same {c = c} {d = d} {rs = rs} more old = record {
  fit = fit_after c d rs more old.fit;
  counted = old.counted;
  held = old.held;
  places = old.places;
  allowed = old.allowed;
}

pub view_same : {budget : ℕ} {c d : Cells} (rs : List Undo) {old : View}
    → MorePages c d → view_of budget c rs ≡ old → view_of budget d rs ≡ old
view_same {budget} {c} {d} rs more view =
    let here = shows_after c d more in
    let below = back_after c d rs more in
    let made : view_of budget d rs ≡ view_of budget c rs
    = λ i. record { budget = budget; present = here i; past = below i; costs = costs_of rs } in
    made ∙ view

pub refusal_does : {v w : View} (e : Event) (r : Result Answer Refusal)
    → IfErr r (Refuses v.present e) → w ≡ v → IfErr r (λ refusal. Does v (refuses e refusal) w)
refusal_does e (Ok answer) why same = tt
refusal_does e (Err refusal) why same = (why, same)

-- ---- the same by the records, whose octets lie in one ring

pub length-undos_of : (rs : List Record) (o : OldOctets) → length (undos_of rs o) ≡ length rs
length-undos_of [] o = refl
length-undos_of (r ∷ rs) o = ap suc (length-undos_of rs (given_up (held r) o))

-- what the fields of a machine have together
abbrev pub AreFields : Cells → List Record → OldOctets → waiting → ℕ → ℕ → ℕ → Type 0
AreFields c rs o w capacity budget used =
    IsJournal c (undos_of rs o) capacity budget used × AreSaved rs o w budget used

-- none yet
pub opened : {c : Cells} {rs : List Record} {o : OldOctets} {w : waiting} {capacity budget : ℕ} → rs ≡ []
    → capacity ≡ budget / least_cost → IsBudget budget → AreSaved [] o w budget 0 → AreFields c rs o w capacity budget 0
opened {c} {rs} {o} {w} {capacity} {budget} none places allowed all =
    subst (λ xs. AreFields c xs o w capacity budget 0) (sym none) (
      record { fit = tt; counted = refl; held = omega arith; places = places; allowed = allowed },
      all,
    )

-- the record of an event that saved octets
pub saved_kept : {budget used : ℕ} {rs new : List Record} {o q : OldOctets} {w : waiting} {r : Record}
    → new ≡ take (reach budget (cost_by r ∷ costs_by rs)) (r ∷ rs) → KeepsFor r o q → HasRoom o w 16_396
    → AreSaved rs o w budget used → Kept budget rs o w r new q
saved_kept {budget} {rs = rs} {o = o} {w = w} {r = r} items keeps room all =
    let fits = less_room w o 16_396 (held r) keeps.few room in
    record {
      items = items;
      saves = keeps.keeps.saves
          (omega (arith, room_in_ring w rs o budget (held r) all.size all.held keeps.few fits));
      few = keeps.few;
      room = fits;
      at = keeps.at;
    }

-- and of one that saved none
pub plain_kept : {budget : ℕ} {rs new : List Record} (o : OldOctets) {w : waiting} {r : Record}
    → new ≡ take (reach budget (cost_by r ∷ costs_by rs)) (r ∷ rs) → IsPlain r → Kept budget rs o w r new o
plain_kept o {w} {r} items plain = record {
  items = items;
  saves = subst (λ n. Saves n o o) (sym plain.held) (record { room = omega arith; saved = saved_nothing [] 0 o });
  few = omega (arith, plain.held);
  room = room_before w o (held r) (omega (arith, plain.held));
  at = plain.at o;
}

pub entered : {budget used capacity : ℕ} {c d left : Cells} {rs new : List Record} {o p q : OldOctets} {v w : waiting}
    {r : Record} {e : Event} {answer : Answer} → left ≡ d → p ≡ q → v ≡ w → WasPerformed c e d answer (undo_of r q)
    → Kept budget rs o w r new q → AreFields c rs o w capacity budget used → {places now : ℕ} → places ≡ capacity
    → now ≡ sum (costs_by new) → now ≤ budget → AreFields left new p v places budget now
entered {budget} {left = left} {new = new} {p = p} {q = q} {w = w} is octets waits done kept old {places} {now} same
    counted held =
    let saved = kept_saved kept old.1 counted in
    let costs = costs_as new q (omega (arith, inside saved)) in
    let fields : AreFields left new q w places budget now = (
      journal_event is old.0 done.reverses (kept_undos kept old.1) same (counted ∙ ap sum (sym costs)) held,
      saved,
    ) in
    subst (λ x. AreFields left new p x places budget now) (sym waits)
    (subst (λ x. AreFields left new x w places budget now) (sym octets) fields)

pub entry_does : {budget used capacity : ℕ} {c d left : Cells} {rs new : List Record} {o p q : OldOctets} {w : waiting}
    {r : Record} {old : View} (e : Event) {answer : Answer} → left ≡ d → p ≡ q
    → WasPerformed c e d answer (undo_of r q)
    → Kept budget rs o w r new q → AreFields c rs o w capacity budget used → 0 < length new
    → view_of budget c (undos_of rs o) ≡ old → WasJournalled old e answer (view_of budget left (undos_of new p))
entry_does {budget} {left = left} {rs} {new} {o} {q = q} {old = old} e {answer} is octets done kept fields some view =
    subst (λ x. WasJournalled old e answer (view_of budget left (undos_of new x))) (sym octets)
    (event_does (undos_of rs o) e is done (kept_undos kept fields.1) (omega (arith, some, length-undos_of new q)) view)

-- a refused event saved none
pub fields_same : {budget used capacity : ℕ} {c d : Cells} {rs : List Record} {o p : OldOctets} {w : waiting} → p ≡ o
    → MorePages c d → AreFields c rs o w capacity budget used → AreFields d rs p w capacity budget used
fields_same {budget} {used} {capacity} {d = d} {rs} {w = w} octets more old =
    subst (λ x. AreFields d rs x w capacity budget used) (sym octets) (journal_same more old.0, old.1)

-- nor does a ring of octets that is made ready for an event change what the records mean
pub ready_fields : {budget used now places capacity : ℕ} {c : Cells} {rs new : List Record} {o p : OldOctets}
    {v w : waiting} → undos_of new p ≡ undos_of rs o → places ≡ capacity → now ≡ used → AreSaved new p v budget now
    → AreFields c rs o w capacity budget used → AreFields c new p v places budget now
ready_fields {c = c} undos places used saved old = (
  record {
    fit = subst (AllFit c) (sym undos) old.0.fit;
    counted = used ∙ old.0.counted ∙ ap (λ us. sum (costs_of us)) (sym undos);
    held = omega (arith, used, old.0.held);
    places = places ∙ old.0.places;
    allowed = old.0.allowed;
  },
  saved,
)

pub shown_same : {budget : ℕ} {c d : Cells} (rs : List Record) {o p : OldOctets} {old : View} → p ≡ o
    → MorePages c d → view_of budget c (undos_of rs o) ≡ old → view_of budget d (undos_of rs p) ≡ old
shown_same {budget} {d = d} rs {o} octets more view =
    ap (λ x. view_of budget d (undos_of rs x)) octets ∙ view_same (undos_of rs o) more view

-- ---- the newest record takes its event back

pub newest_is : (rs : List Record) (r : Record) → slice_get rs 0 ≡ Some r → rs ≡ r ∷ drop 1 rs
newest_is [] r is = cc
newest_is (q ∷ rs) r is = let same : q ≡ r = cc in ap (λ x. x ∷ rs) same

pub newest_fits : {c : Cells} {r : Record} {rs : List Record} {o : OldOctets} {w : waiting} {capacity budget used : ℕ}
    → AreFields c (r ∷ rs) o w capacity budget used
    → (held r ≤ length o.octets) × (Fits c (undo_of r o) × (used ≡ cost_by r + sum (costs_by rs)))
newest_fits {r = r} {rs} {o} old = (
  omega (arith, inside old.1),
  (old.0.fit.0, old.1.counted ∙ sum_cons (cost_by r) (costs_by rs)),
)

pub newest_of : {c : Cells} {rs : List Record} {o : OldOctets} {w : waiting} {capacity budget used : ℕ} (r : Record)
    → slice_get rs 0 ≡ Some r → AreFields c rs o w capacity budget used
    → AreFields c (r ∷ drop 1 rs) o w capacity budget used
newest_of {c} {rs} {o} {w} {capacity} {budget} {used} r is =
    subst (λ xs. AreFields c xs o w capacity budget used) (newest_is rs r is)

pub gone_back : {c d : Cells} {r : Record} {rs : List Record} {o p : OldOctets} {w : waiting}
    {capacity budget used now : ℕ} → AreFields c (r ∷ rs) o w capacity budget used → d ≡ undo c (undo_of r o)
    → p ≡ given_up (held r) o → now + cost_by r ≡ used → AreFields d rs p w capacity budget now
gone_back {c} {d} {r} {rs} {o} {p} {w} {capacity} {budget} {used} {now} old back given left =
    let saved : AreSaved rs (given_up (held r) o) w budget now = older_saved r rs o w old.1 left in
    let costs = costs_as rs (given_up (held r) o) (omega (arith, inside saved)) in
    let journal : IsJournal (undo c (undo_of r o)) (undos_of rs (given_up (held r) o)) capacity budget now = record {
      fit = old.0.fit.1;
      counted = saved.counted ∙ ap sum (sym costs);
      held = omega (arith, left, old.0.held);
      places = old.0.places;
      allowed = old.0.allowed;
    } in
    let fields : AreFields (undo c (undo_of r o)) rs (given_up (held r) o) w capacity budget now = (journal, saved) in
    subst (λ x. AreFields x rs p w capacity budget now) (sym back)
    (subst (λ x. AreFields (undo c (undo_of r o)) rs x w capacity budget now) (sym given) fields)

pub back_does : (c d : Cells) (r : Record) (rs : List Record) (o p : OldOctets) (budget : ℕ) {old : View}
    → d ≡ undo c (undo_of r o) → p ≡ given_up (held r) o → view_of budget c (undos_of (r ∷ rs) o) ≡ old
    → Does old goes_back (view_of budget d (undos_of rs p))
back_does c d r rs o p budget back given view =
    let made : view_of budget d (undos_of rs p) ≡ view_of budget (undo c (undo_of r o)) (undos_of rs (given_up (held r) o))
    = λ i. view_of budget (back i) (undos_of rs (given i)) in
    subst (λ v. Does v goes_back (view_of budget d (undos_of rs p))) view (omega arith, made)

-- ---- what an event costs whose record holds no octets
pub plain_cost : {c d : Cells} {e : Event} {answer : Answer} {r : Record} (o : OldOctets)
    → PerformedPlainly c e d answer r → cost_by r ≡ cost (shows c) e
plain_cost {r = r} o done = sym (cost_as r o (omega (arith, done.plain.held))) ∙ (done.performed o).cost
