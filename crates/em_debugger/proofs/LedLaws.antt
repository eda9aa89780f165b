-- The event that a search names led from what was seen before it to what was seen after it.
use Rattle.std.proofs.Common.{◌≡◌, ◌∙◌, ℕ, ◌-◌, ◌<◌, suc, true, length, Some, sym, ap, arith}
use Rattle.std.specs.Prelude.{slice_get}
use Rattle.std.specs.Option.{option_map}
use Rattle.std.proofs.lemmas.List.{length-map}
use Rattle.std.proofs.lemmas.Option.{slice_get-map, slice_get_within}
use Rattle.em_step.specs.State.{State}
use Rattle.em_journal.specs.View.{View, opening, states}
use Rattle.em_named.specs.Numbers.{number_in}
use Rattle.em_tape.specs.Tape.{HoldsTape, Tape}
use Rattle.em_tape.proofs.LedLaws.{has_led}
use Rattle.em_watch.specs.Watching.{sight, sights}
use Rattle.em_watch.specs.declared.watch.Sight.{Sight}
use Rattle.em_watch.specs.declared.watch.Watch.{Watch}
use Rattle.em_debugger.specs.declared.search.Found.{Found}
use Rattle.em_debugger.specs.Led.{HasFound}
use Rattle.em_debugger.specs.Search.{IsFoundIn}

some-is : (a b : Sight) → Some a ≡ Some b → a ≡ b
some-is a b e = cc

-- what is seen in a state, that stands so many steps back
seen-in : (watch : Watch) (v : View) (k : ℕ) (s : State) (seen : Sight) → slice_get (states v) k ≡ Some s
    → slice_get (sights watch v) k ≡ Some seen → sight watch s ≡ seen
seen-in watch v k s seen is sees =
    some-is (sight watch s) seen
    (ap (option_map (sight watch)) (sym is) ∙ sym (slice_get-map (sight watch) (states v) k) ∙ sees)

pub found_led : (tape : Tape) (watch : Watch) (budget back : ℕ) (s : State) (found : Found) → HoldsTape tape
    → tape.answered ≡ true → tape.first.machine ≡ opening budget s → IsFoundIn tape watch back found
    → HasFound tape watch back found
found_led tape watch budget back s found holds answered first h =
    let v = tape.session.machine in
    let k = h.change.back - 1 in
    let next : suc k ≡ h.change.back = omega (arith, h.next.older) in
    let deep : h.change.back < length (sights watch v) =
    slice_get_within (sights watch v) h.change.back h.change.before h.next.before in
    let long = length-map (states v) (sight watch) in
    let held : k < length v.past = omega (arith, deep, long, h.next.older) in
    let led = has_led tape budget s k holds answered first held in
    let before : slice_get (sights watch v) (suc k) ≡ Some found.difference.before =
    ap (slice_get (sights watch v)) next ∙ h.next.before ∙ ap (λ x. Some x) (sym h.before) in
    record {
      steps = k;
      older = omega (arith, h.next.older);
      name = led.0;
      has = led.1;
      number = h.event ∙ ap (number_in tape.did) led.1.at;
      note = h.note;
      before = seen-in watch v (suc k) led.1.led.before found.difference.before led.1.led.led_from before;
      after = seen-in watch v k led.1.led.after found.difference.after led.1.led.led_to h.after;
      differs = λ same. h.next.another (sym (h.next.since k (omega (arith, h.next.older)) (omega (arith, h.next.older)))
          ∙ h.after ∙ ap (λ x. Some x) (sym same ∙ h.before));
      newest = λ i from below. h.next.since i from (omega (arith, below, h.next.older));
    }
