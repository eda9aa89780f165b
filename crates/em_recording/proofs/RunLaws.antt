-- The records of a run, call by call.
use Rattle.std.proofs.Common.{◌≡◌, ◌∙◌, ℕ, ◌+◌, ◌-◌, ◌<◌, ◌≤◌, zero, suc, List, [], ◌∷◌, length, take, drop, Some}
use Rattle.std.proofs.Common.{refl, sym, ap, subst, arith}
use Rattle.std.specs.Prelude.{slice_get}
use Rattle.std.proofs.lemmas.List.{length-take}
use Rattle.std.proofs.lemmas.Option.{slice_get_within}
use Rattle.em_regs.specs.declared.profile.Profile.{Profile}
use Rattle.em_step.specs.State.{State}
use Rattle.em_step.specs.Cost.{cost}
use Rattle.em_step.proofs.ProfileLaws.{event_keeps}
use Rattle.em_journal.specs.History.{Call, performs, refuses, goes_back, is_empty, Does, Leads, Run}
use Rattle.em_journal.specs.View.{View, after_event, back_to, opening, reach, states}
use Rattle.em_watch.proofs.TracedLaws.{some_is}
use Rattle.em_recording.specs.Rebuild.{IsRecordOf, LeadsBetween, put_on, take_off}
use Rattle.em_recording.specs.Run.{AreOfProfile, AreRecordsFrom, IsRecording, Records, RecordsAll, put_all_on, take_some_off}
use Rattle.em_recording.specs.Shown.{Shown, shown_in}
use Rattle.em_recording.specs.declared.recorded.Recorded.{Recorded}
use Rattle.em_recording.proofs.WireLaws.{there_is}

-- what holds between two calls
record Holds (first : Shown) (v : View) (records : List Recorded) : Type 0 where
  enough : length v.past ≤ length records
  forward : (k : ℕ) (t : State) → slice_get (states v) k ≡ Some t → put_all_on (drop k records) first ≡ shown_in t
  backward : (k : ℕ) (t : State) → slice_get (states v) k ≡ Some t
      → take_some_off k records (shown_in v.present) ≡ shown_in t

-- an item of a list that was cut lies in the whole one
in_front : {A : Type 0} (n : ℕ) (xs : List A) (k : ℕ) (x : A) → slice_get (take n xs) k ≡ Some x
    → slice_get xs k ≡ Some x
in_front zero xs k x e = absurd (cc)
in_front (suc n) [] k x e = absurd (cc)
in_front (suc n) (y ∷ xs) zero x e = e
in_front (suc n) (y ∷ xs) (suc k) x e = in_front n xs k x e

-- the front of a list that is not empty begins as the list does
first_of : {A : Type 0} (n : ℕ) (x : A) (xs : List A) → 0 < length (take n (x ∷ xs))
    → slice_get (take n (x ∷ xs)) 0 ≡ Some x
first_of zero x xs l = absurd (omega arith)
first_of (suc n) x xs l = refl

start_forward : (s : State) (k : ℕ) (t : State) → slice_get (s ∷ []) k ≡ Some t
    → put_all_on (drop k []) (shown_in s) ≡ shown_in t
start_forward s zero t there = ap shown_in (some_is s t there)
start_forward s (suc k) t there = absurd (cc)

start_backward : (s : State) (k : ℕ) (t : State) → slice_get (s ∷ []) k ≡ Some t
    → take_some_off k [] (shown_in s) ≡ shown_in t
start_backward s zero t there = ap shown_in (some_is s t there)
start_backward s (suc k) t there = absurd (cc)

at_start : (budget : ℕ) (s : State) → Holds (shown_in s) (opening budget s) []
at_start budget s =
    record { enough = omega arith; forward = start_forward s; backward = start_backward s }

-- ---- an event that was performed
module _ (first : Shown) (v : View) (records : List Recorded) (holds : Holds first v records) (s : State) (spent : ℕ)
    (same : s.profile ≡ v.present.profile) (some : 0 < length (after_event v s spent).past) (r : Recorded)
    (is : IsRecordOf (after_event v s spent) 1 r) where
  leads : LeadsBetween r (shown_in v.present) (shown_in s)
  leads = is v.present s (first_of (reach v.budget (spent ∷ v.costs)) v.present v.past some) refl same

  performed_forward : (k : ℕ) (t : State) → slice_get (states (after_event v s spent)) k ≡ Some t
      → put_all_on (drop k (r ∷ records)) first ≡ shown_in t
  performed_forward zero t there =
      ap (put_on r) (holds.forward 0 v.present refl) ∙ leads.forward ∙ ap shown_in (some_is s t there)
  performed_forward (suc k) t there =
      holds.forward k t (in_front (reach v.budget (spent ∷ v.costs)) (states v) k t there)

  performed_backward : (k : ℕ) (t : State) → slice_get (states (after_event v s spent)) k ≡ Some t
      → take_some_off k (r ∷ records) (shown_in s) ≡ shown_in t
  performed_backward zero t there = ap shown_in (some_is s t there)
  performed_backward (suc k) t there =
      ap (take_some_off k records) leads.backward
      ∙ holds.backward k t (in_front (reach v.budget (spent ∷ v.costs)) (states v) k t there)

  performed : Holds first (after_event v s spent) (r ∷ records)
  performed = record {
    enough = let cut = length-take (reach v.budget (spent ∷ v.costs)) (states v) in
        omega (arith, holds.enough, cut);
    forward = performed_forward;
    backward = performed_backward;
  }

-- ---- a step back
back_holds : (first : Shown) (v : View) (past : List State) (records : List Recorded) → past ≡ v.past
    → Holds first v records → 0 < length past → Holds first (back_to past v) (drop 1 records)
back_holds first v [] records e holds some = absurd (omega arith)
back_holds first v (s ∷ older) [] e holds some =
    absurd (let enough = holds.enough in omega (arith, enough, ap length e))
back_holds first v (s ∷ older) (r ∷ records) e holds some =
    let there : (k : ℕ) (t : State) → slice_get (s ∷ older) k ≡ Some t → slice_get (states v) (suc k) ≡ Some t
    = λ k t at. subst (λ (past : List State). slice_get past k ≡ Some t) e at in
    let newest : take_off r (shown_in v.present) ≡ shown_in s = holds.backward 1 s (there 0 s refl) in
    record {
      enough = let enough = holds.enough in omega (arith, enough, ap length e);
      forward = λ k t at. holds.forward (suc k) t (there k t at);
      backward = λ k t at. ap (take_some_off k records) (sym newest) ∙ holds.backward (suc k) t (there k t at);
    }

-- ---- any call
call_holds : (first : Shown) (v w : View) (before after : List Recorded) (call : Call) → Records v before call w after
    → Holds first v before → Holds first w after
call_holds first v w before after (performs e answer) told holds =
    let is_after : w ≡ after_event v w.present (cost v.present e) = told.0.1 in
    subst (λ (rs : List Recorded). Holds first w rs) (sym told.2.2)
    (subst (λ (x : View). Holds first x (told.2.0 ∷ before)) (sym is_after)
    (performed first v before holds w.present (cost v.present e) (event_keeps v.present e (answer, w.present) told.0.0)
    (subst (λ (x : View). 0 < length x.past) is_after told.1) told.2.0
    (subst (λ (x : View). IsRecordOf x 1 told.2.0) is_after told.2.1)))
call_holds first v w before after (refuses e refusal) told holds =
    subst (λ (rs : List Recorded). Holds first w rs) (sym told.1)
    (subst (λ (x : View). Holds first x before) (sym told.0.1) holds)
call_holds first v w before after goes_back told holds =
    subst (λ (rs : List Recorded). Holds first w rs) (sym told.1)
    (subst (λ (x : View). Holds first x (drop 1 before)) (sym told.0.1)
    (back_holds first v v.past before refl holds told.0.0))
call_holds first v w before after is_empty told holds =
    subst (λ (rs : List Recorded). Holds first w rs) (sym told.1)
    (subst (λ (x : View). Holds first x before) (sym told.0.1) holds)

calls_hold : (first : Shown) (calls : List Call) (v w : View) (before after : List Recorded)
    → RecordsAll v before calls w after → Holds first v before → Holds first w after
calls_hold first [] v w before after told holds =
    subst (λ (rs : List Recorded). Holds first w rs) (sym told.1)
    (subst (λ (x : View). Holds first x before) (sym told.0) holds)
calls_hold first (call ∷ calls) v w before after told holds =
    calls_hold first calls told.0 w told.1 after told.3 (call_holds first v told.0 before told.1 call told.2 holds)

holds_of : (budget : ℕ) (s : State) (calls : List Call) (v : View) (records : List Recorded)
    → IsRecording budget s calls v records → Holds (shown_in s) v records
holds_of budget s calls v records told =
    calls_hold (shown_in s) calls (opening budget s) v [] records told (at_start budget s)

pub rebuilt_forward : (budget : ℕ) (s : State) (calls : List Call) (v : View) (records : List Recorded)
    → IsRecording budget s calls v records → (k : ℕ) (t : State) → slice_get (states v) k ≡ Some t
    → put_all_on (drop k records) (shown_in s) ≡ shown_in t
rebuilt_forward budget s calls v records told = (holds_of budget s calls v records told).forward

pub rebuilt_backward : (budget : ℕ) (s : State) (calls : List Call) (v : View) (records : List Recorded)
    → IsRecording budget s calls v records → (k : ℕ) (t : State) → slice_get (states v) k ≡ Some t
    → take_some_off k records (shown_in v.present) ≡ shown_in t
rebuilt_backward budget s calls v records told = (holds_of budget s calls v records told).backward

-- ---- the profile
opening_of : (budget : ℕ) (s : State) → AreOfProfile s.profile (opening budget s)
opening_of budget s zero t there = sym (ap (λ x. x.profile) (some_is s t there))
opening_of budget s (suc k) t there = absurd (cc)

event_of : (p : Profile) (v : View) (s : State) (spent : ℕ) → s.profile ≡ v.present.profile → AreOfProfile p v
    → AreOfProfile p (after_event v s spent)
event_of p v s spent same of zero t there =
    sym (ap (λ x. x.profile) (some_is s t there)) ∙ same ∙ of 0 v.present refl
event_of p v s spent same of (suc k) t there =
    of k t (in_front (reach v.budget (spent ∷ v.costs)) (states v) k t there)

back_of : (p : Profile) (v : View) (past : List State) → past ≡ v.past → AreOfProfile p v
    → AreOfProfile p (back_to past v)
back_of p v [] e of = of
back_of p v (s ∷ older) e of =
    λ k t there. of (suc k) t (subst (λ (past : List State). slice_get past k ≡ Some t) e there)

call_of : (p : Profile) (v w : View) (call : Call) → Does v call w → AreOfProfile p v → AreOfProfile p w
call_of p v w (performs e answer) does of =
    subst (AreOfProfile p) (sym does.1)
    (event_of p v w.present (cost v.present e) (event_keeps v.present e (answer, w.present) does.0) of)
call_of p v w (refuses e refusal) does of = subst (AreOfProfile p) (sym does.1) of
call_of p v w goes_back does of = subst (AreOfProfile p) (sym does.1) (back_of p v v.past refl of)
call_of p v w is_empty does of = subst (AreOfProfile p) (sym does.1) of

calls_of : (p : Profile) (calls : List Call) (v w : View) → Run v calls w → AreOfProfile p v → AreOfProfile p w
calls_of p [] v w run of = subst (AreOfProfile p) (sym run) of
calls_of p (call ∷ calls) v w (m, does, run) of = calls_of p calls m w run (call_of p v m call does of)

pub profile_stays : (budget : ℕ) (s : State) (calls : List Call) (v : View) → Leads budget s calls v
    → AreOfProfile s.profile v
profile_stays budget s calls v run = calls_of s.profile calls (opening budget s) v run (opening_of budget s)

-- ---- the newest events of one journal
newest_from : (v : View) (n : ℕ) (records : List Recorded) (first s : State) → AreOfProfile v.present.profile v
    → AreRecordsFrom v n records
    → slice_get (states v) (n + length records) ≡ Some first → slice_get (states v) n ≡ Some s
    → put_all_on records (shown_in first) ≡ shown_in s
newest_from v n [] first s of are there here =
    let same : n + 0 ≡ n = omega arith in
    ap shown_in (some_is first s (sym there ∙ ap (slice_get (states v)) same ∙ here))
newest_from v n (r ∷ records) first s of are there here =
    let place : n + suc (length records) ≡ suc n + length records = omega arith in
    let oldest = sym (ap (slice_get (states v)) place) ∙ there in
    let within = slice_get_within (states v) (suc n + length records) first oldest in
    let before = there_is (states v) (suc n) (omega (arith, within)) in
    let last : suc n - 1 ≡ n = omega arith in
    ap (put_on r) (newest_from v (suc n) records first before.0 of are.1 oldest before.1)
    ∙ (are.0 before.0 s before.1 (ap (slice_get (states v)) last ∙ here)
    (of n s here ∙ sym (of (suc n) before.0 before.1))).forward

pub newest_rebuilt : (v : View) (records : List Recorded) (first : State) → AreRecordsFrom v 0 records
    → slice_get (states v) (length records) ≡ Some first → AreOfProfile v.present.profile v
    → put_all_on records (shown_in first) ≡ shown_in v.present
newest_rebuilt v records first are there of =
    let place : 0 + length records ≡ length records = omega arith in
    newest_from v 0 records first v.present of are (ap (slice_get (states v)) place ∙ there) refl
