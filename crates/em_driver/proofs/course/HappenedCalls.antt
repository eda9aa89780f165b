-- What calls of the driver did, where memory may have been refused.
use Rattle.std.proofs.Common.{◌≡◌, ◌∙◌, ℕ, Bool, true, false, [], ◌∷◌, length, Some, None}
use Rattle.std.proofs.Common.{refl, sym, ap, inl, inr, arith, length-append}
use Rattle.em_step.specs.Event.{Event}
use Rattle.em_step.specs.declared.event.Answer.{Answer}
use Rattle.em_driver.specs.World.{World, first, rest, IsTaken, Passes, Accesses}
use Rattle.em_driver.specs.Course.{Course, done, read, write, reset, peek, poke, room, Follows}
use Rattle.em_driver.specs.Play.{Tells, wants_memory}
use Rattle.em_driver.specs.HappenedCall.{Happens}
use Rattle.em_driver.proofs.course.PlayedCourse.{followed_is_played, neither}

by_want : {A : Type 0} (says : A → Bool) (course : Course A) (w v : World) (n : ℕ) (a : A) (b : Bool)
    → wants_memory says a v ≡ b → Tells says course → Follows w course n a v → w.spared ≡ None
    → Happens says w course (record { events = n; answer = a; world = v })
by_want says course w v n a true want tells follows alone = record {
  named = Some (record { events = n; answer = a; world = v });
  can = (follows, want);
  is = refl;
}
by_want says course w v n a false fed tells follows alone =
    let none = neither (says a) v.starved fed in
    record {
      named = None;
      can = tt;
      is = sym (followed_is_played says says course w v n a tells follows alone none.0 (inl none.0) none.1);
    }

pub call_happens : {A : Type 0} (says : A → Bool) (course : Course A) (w v : World) (n : ℕ) (a : A)
    → Tells says course → Follows w course n a v → w.spared ≡ None
    → Happens says w course (record { events = n; answer = a; world = v })
call_happens says course w v n a tells follows alone =
    by_want says course w v n a (wants_memory says a v) refl tells follows alone

-- ---- without a plan no turn finds memory wanting

-- nor did one so far
abbrev Unplanned : World → World → Type 0
Unplanned w v = (v.plan ≡ []) × (v.starved ≡ w.starved)

passed_unplanned : (w v : World) (passes : Passes w v) → IsTaken w passes.turns v → w.plan ≡ [] → Unplanned w v
passed_unplanned w v passes (inl taken) none = (taken.1 ∙ ap rest none, taken.2)
passed_unplanned w v passes (inr starves) none =
    let turns = passes.turns in
    let behind = starves.0.wanting ∷ starves.0.dropped in
    let long = ap length (sym (ap first none) ∙ starves.0.is) ∙ length-append turns behind in
    absurd (omega (arith, long))

pass_unplanned : (w v : World) → Passes w v → w.plan ≡ [] → Unplanned w v
pass_unplanned w v passes none = passed_unplanned w v passes passes.taken none

access_unplanned : (w v : World) {e : Event} {answer : Answer} → Accesses w e answer v → w.plan ≡ [] → Unplanned w v
access_unplanned w v access none =
    let here = pass_unplanned w access.mid access.passes none in
    (ap (λ x. x.plan) access.is ∙ here.0, ap (λ x. x.starved) access.is ∙ here.1)

pub unplanned_fed : {A : Type 0} (course : Course A) (w v : World) (n : ℕ) (a : A) → Follows w course n a v
    → w.plan ≡ [] → v.starved ≡ w.starved
unfolding Follows
unplanned_fed (done answer) w v n a h none = ap (λ x. x.starved) h.world_is
unplanned_fed (read reg next) w v n a h none =
    let here = access_unplanned w h.1.mid h.1.step none in
    unplanned_fed (next h.0) h.1.mid v h.1.others a h.1.more here.0 ∙ here.1
unplanned_fed (write reg value more) w v n a h none =
    let here = access_unplanned w h.mid h.step none in
    unplanned_fed more h.mid v h.others a h.more here.0 ∙ here.1
unplanned_fed (reset stopped more) w v n a (inl h) none = (pass_unplanned w v h.0.passes none).1
unplanned_fed (reset stopped more) w v n a (inr h) none =
    let here = access_unplanned w h.mid h.step none in
    unplanned_fed more h.mid v h.others a h.more here.0 ∙ here.1
unplanned_fed (peek addr len stopped next) w v n a (inl h) none = (pass_unplanned w v h.0.passes none).1
unplanned_fed (peek addr len stopped next) w v n a (inr h) none =
    let here = pass_unplanned w h.1 h.2.passes none in
    unplanned_fed (next h.0) h.1 v n a h.3 here.0 ∙ here.1
unplanned_fed (poke addr octets stopped more) w v n a (inl h) none = (pass_unplanned w v h.1.passes none).1
unplanned_fed (poke addr octets stopped more) w v n a (inr h) none =
    let here = access_unplanned w h.mid h.step none in
    unplanned_fed more h.mid v h.others a h.more here.0 ∙ here.1
unplanned_fed (room stopped more) w v n a (inl h) none = ap (λ x. x.starved) h.world_is
unplanned_fed (room stopped more) w v n a (inr h) none = unplanned_fed more w v n a h none
