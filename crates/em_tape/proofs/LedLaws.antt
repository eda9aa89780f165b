-- The events that stand at a place led from state to state.
use Rattle.std.proofs.Common.{◌≡◌, ℕ, ◌+◌, ◌<◌, ◌≤◌, zero, suc, true, List, [], ◌∷◌, length, take, Some}
use Rattle.std.proofs.Common.{refl, sym, ap, ◌∙◌, subst, arith}
use Rattle.std.specs.Prelude.{slice_get, unwrap_or, Option}
use Rattle.std.proofs.lemmas.Option.{slice_get_within}
use Rattle.em_step.specs.State.{State}
use Rattle.em_journal.specs.History.{Call, Leads, Run}
use Rattle.em_journal.specs.View.{View, after_back, after_backs, back_to, opening, states}
use Rattle.em_journal.proofs.BackLaws.{past_left}
use Rattle.em_script.specs.PlayedLine.{after_all}
use Rattle.em_script.proofs.DidLemmas.{lines_did}
use Rattle.em_named.specs.Lines.{AreDid, NamedLed, all_calls}
use Rattle.em_named.specs.Names.{IsBefore, names}
use Rattle.em_named.specs.declared.did.Name.{Name}
use Rattle.em_named.proofs.LineLaws.{named_led}
use Rattle.em_named.proofs.NameLaws.{get-drop, once}
use Rattle.em_named.proofs.NumberLaws.{fit, found}
use Rattle.em_trail.specs.Trail.{Tells, TellsAt}
use Rattle.em_trail.specs.declared.note.Note.{Note}
use Rattle.em_tape.specs.Led.{HasLed, IsTold}
use Rattle.em_tape.specs.Tape.{HoldsTape, Tape, standing}

pub states-one : (l : List State) (v : View) → v.past ≡ l → 0 < length l → states (after_back v) ≡ v.past
states-one [] v is some = absurd (omega arith)
states-one (s ∷ older) v is some = ap (λ x. states (back_to x v)) is ∙ sym is

-- what lies so many steps further back
pub states-back : (n k : ℕ) (v : View) → n ≤ length v.past
    → slice_get (states (after_backs n v)) k ≡ slice_get (states v) (n + k)
states-back zero k v le = let e : k ≡ 0 + k = omega arith in ap (slice_get (states v)) e
states-back (suc n) k v le =
    let w = after_back v in
    let left = past_left 1 v w refl in
    let e : suc (n + k) ≡ suc n + k = omega arith in
    states-back n k w (omega arith) ∙ ap (λ l. slice_get l (n + k)) (states-one v.past v refl (omega arith))
    ∙ ap (slice_get (states v)) e

led-back : (n k : ℕ) (v : View) (one : Name) (lines : List (List Call)) → n ≤ length v.past
    → NamedLed lines (states v) (n + k) one → NamedLed lines (states (after_backs n v)) k one
led-back n k v one lines le led =
    let e : n + suc k ≡ suc (n + k) = omega arith in
    record {
      event = led.event;
      answer = led.answer;
      of = led.of;
      before = led.before;
      after = led.after;
      led_from = states-back n (suc k) v le ∙ ap (slice_get (states v)) e ∙ led.led_from;
      led_to = states-back n k v le ∙ led.led_to;
      stepped = led.stepped;
    }

pub has_led : (tape : Tape) (budget : ℕ) (s : State) (k : ℕ) → HoldsTape tape → tape.answered ≡ true
    → tape.first.machine ≡ opening budget s → k < length tape.session.machine.past
    → (one : Name) × HasLed tape k one
has_led tape budget s k holds told opens lt =
    let place = holds.place in
    let did = take tape.whole tape.did in
    let back = tape.back in
    let so = lines_did place.all tape.first place.played.allowed in
    let v = (after_all place.all tape.first).machine in
    let are : AreDid so.lines did = subst (AreDid so.lines) (sym (holds.noted told)) so.are in
    let leads : Leads budget s (all_calls so.lines) v = subst (λ w. Run w (all_calls so.lines) v) opens so.run in
    let here : tape.session.machine ≡ after_backs back v = ap (λ x. x.machine) place.session in
    let left = past_left back v (after_backs back v) refl in
    let deep : back + k < length v.past = omega (arith, left, ap (λ (w : View). length w.past) here) in
    let named = named_led budget (back + k) s so.lines did v leads are deep in
    let one = named.0 in
    let at : slice_get (standing tape) k ≡ Some one = get-drop back k (names did) ∙ named.1 in
    let fits = fit tape.whole back tape.did holds.known k one at in (
      one,
      record {
        at = at;
        last = fits.last;
        lines = so.lines;
        did = are;
        led = subst (λ w. NamedLed so.lines (states w) k one) (sym here)
            (led-back back k v one so.lines (omega arith) named.2);
        found = found tape.whole tape.did one holds.known fits;
      },
    )

-- what lies at one place is one
same_there : {X : Type 0} (x y : X) (o : Option X) → o ≡ Some x → o ≡ Some y → x ≡ y
same_there x y o is is' = ap (λ p. unwrap_or p x) (sym is ∙ is')

-- a note that tells of the event so many steps back tells of the one that is named there
pub is_told : (tape : Tape) (budget : ℕ) (s : State) (k : ℕ) (note : Note) → HoldsTape tape → tape.answered ≡ true
    → tape.first.machine ≡ opening budget s → TellsAt (states tape.session.machine) k note
    → (one : Name) × IsTold tape k one note
is_told tape budget s k note holds told opens at =
    let past = tape.session.machine.past in
    let lt : k < length past = slice_get_within past k at.before at.led_from in
    let named = has_led tape budget s k holds told opens lt in
    let led = named.1.led in
    let all = states tape.session.machine in
    let before : at.before ≡ led.before = same_there at.before led.before (slice_get all (suc k)) at.led_from led.led_from in
    let after : at.after ≡ led.after = same_there at.after led.after (slice_get all k) at.led_to led.led_to in (
      named.0,
      record {
        named = named.1;
        tells = subst (λ b. Tells note b led.after) before (subst (λ a. Tells note at.before a) after at.tells);
      },
    )

pub named_once : (tape : Tape) (i j : ℕ) (newer older : Name) → i < j → slice_get (standing tape) i ≡ Some newer
    → slice_get (standing tape) j ≡ Some older → IsBefore older newer
named_once tape i j newer older lt is is' =
    let did = take tape.whole tape.did in
    once did (tape.back + i) (tape.back + j) newer older (omega arith) (sym (get-drop tape.back i (names did)) ∙ is)
    (sym (get-drop tape.back j (names did)) ∙ is')
