-- Steps back over whole calls of the driver, and events of others.
use Rattle.std.proofs.Common.{◌≡◌, ◌∙◌, ℕ, zero, suc, ◌+◌, ◌≤◌, List, [], ◌∷◌, ◌++◌, length, drop, refl, sym}
use Rattle.std.proofs.Common.{◌⊎◌, ap, subst}
use Rattle.std.proofs.Common.{inl, inr, arith, append_assoc, append-nil, Result, Ok, Err}
use Rattle.std.proofs.lemmas.List.{drop-drop, take-append-drop}
use Rattle.em_step.specs.Cost.{cost}
use Rattle.em_step.specs.Event.{Event}
use Rattle.em_step.specs.State.{State}
use Rattle.em_step.specs.Step.{step}
use Rattle.em_step.specs.declared.event.Answer.{Answer}
use Rattle.em_step.specs.declared.refusal.Refusal.{Refusal}
use Rattle.em_journal.specs.View.{View, after_backs, after_event, back_to, reach, states}
use Rattle.em_driver.specs.Back.{Leg, IsCall, IsEvent, AreLegs, Begins, after_legs, all_steps}
use Rattle.em_driver.specs.Course.{Course, done, read, write, reset, peek, poke, room, Follows}
use Rattle.em_driver.specs.Driven.{IsDriven}
use Rattle.em_turn.specs.Turn.{event_of}
use Rattle.em_driver.specs.World.{World, Accesses, Passes, after_outcome, after_turn, after_turns}
use Rattle.em_driver.specs.World.{after_theirs, after_tried, after_other, after_others}
use Rattle.em_driver.specs.declared.layout.Layout.{Layout}
use Rattle.em_turn.specs.declared.turn.Turn.{Turn}

-- With so many events of its own a driver came from w to v, and k events were performed with the turns: what w shows
-- begins as what v shows does behind the newest k states.
record Behind (w v : World) (events : ℕ) : Type 0 where
  k : ℕ
  count : k + w.performed ≡ events + v.performed
  rest : List State
  is : states w.machine ≡ drop k (states v.machine) ++ rest

behind_none : (w : World) → Behind w w 0
behind_none w = record { k = 0; count = refl; rest = []; is = sym (append-nil (states w.machine)) }

event_behind : (m : View) (s : State) (c : ℕ)
    → states m ≡ drop 1 (states (after_event m s c)) ++ drop (reach m.budget (c ∷ m.costs)) (states m)
event_behind m s c = sym (take-append-drop (reach m.budget (c ∷ m.costs)) (states m))

drop_front : (k : ℕ) (xs ys : List State) → (rest : List State) × (drop k (xs ++ ys) ≡ drop k xs ++ rest)
drop_front zero xs ys = (ys, refl)
drop_front (suc k) [] ys = (drop (suc k) ys, refl)
drop_front (suc k) (x ∷ xs) ys = drop_front k xs ys

behind_on : (w v u : World) (a b : ℕ) → Behind w v a → Behind v u b → Behind w u (a + b)
behind_on w v u a b h j =
    let front = drop_front h.k (drop j.k (states u.machine)) j.rest in
    record {
      k = j.k + h.k;
      count = omega (arith, h.count, j.count);
      rest = front.0 ++ h.rest;
      is = h.is
          ∙ ap (λ x. drop h.k x ++ h.rest) j.is
          ∙ ap (λ x. x ++ h.rest) (front.1 ∙ ap (λ x. x ++ front.0) (drop-drop h.k j.k (states u.machine)))
          ∙ append_assoc (drop (j.k + h.k) (states u.machine)) front.0 h.rest;
    }

behind_as : (w v : World) (a b : ℕ) → b ≡ a → Behind w v a → Behind w v b
behind_as w v a b e h = subst (Behind w v) (sym e) h

theirs_behind : (w : World) (e : Event) (r : Answer × State) → Behind w (after_theirs w e r) 0
theirs_behind w e r = record {
  k = 1;
  count = omega arith;
  rest = drop (reach w.machine.budget (cost w.machine.present e ∷ w.machine.costs)) (states w.machine);
  is = event_behind w.machine r.1 (cost w.machine.present e);
}

outcome_behind : (w : World) (t : Turn) (r : Result (Answer × State) Refusal) → Behind w (after_outcome w t r) 0
outcome_behind w t (Ok r) = theirs_behind w (event_of t) r
outcome_behind w t (Err refusal) =
    record { k = 0; count = refl; rest = []; is = sym (append-nil (states w.machine)) }

turns_behind : (w : World) (turns : List Turn) → Behind w (after_turns w turns) 0
turns_behind w [] = behind_none w
turns_behind w (t ∷ turns) =
    behind_on w (after_turn w t) (after_turns (after_turn w t) turns) 0 0
    (outcome_behind w t (step w.machine.present (event_of t))) (turns_behind (after_turn w t) turns)

tried_behind : (w : World) (e : Event) (r : Result (Answer × State) Refusal) → Behind w (after_tried w e r) 0
tried_behind w e (Ok r) = theirs_behind w e r
tried_behind w e (Err refusal) = behind_none w

others_behind : (w : World) (events : List Event) → Behind w (after_others w events) 0
others_behind w [] = behind_none w
others_behind w (e ∷ events) =
    behind_on w (after_other w e) (after_others (after_other w e) events) 0 0
    (tried_behind w e (step w.machine.present e)) (others_behind (after_other w e) events)

passes_behind : (w v : World) → Passes w v → Behind w v 0
passes_behind w v p =
    let mid : World = after_turns w p.turns in
    let b = behind_on w mid (after_others mid p.events) 0 0 (turns_behind w p.turns) (others_behind mid p.events) in
    subst (λ x. Behind w x 0) (sym p.is) (record { k = b.k; count = b.count; rest = b.rest; is = b.is })

access_behind : (w v : World) {e : Event} {answer : Answer} → Accesses w e answer v → Behind w v 1
access_behind w v {e = e} a =
    let m : World = a.mid in
    let c : ℕ = cost m.machine.present e in
    let one : Behind m v 1 = record {
      k = 1;
      count = omega (arith, ap (λ x. x.performed) a.is);
      rest = drop (reach m.machine.budget (c ∷ m.machine.costs)) (states m.machine);
      is = event_behind m.machine v.machine.present c
          ∙ ap (λ x. drop 1 (states x) ++ drop (reach m.machine.budget (c ∷ m.machine.costs)) (states m.machine))
          (sym a.does.1);
    } in
    behind_on w m v 0 1 (passes_behind w m a.passes) one

follows_behind : {A : Type 0} (course : Course A) (w v : World) (events : ℕ) (answer : A)
    → Follows w course events answer v → Behind w v events
unfolding Follows
follows_behind (done a) w v events answer end =
    behind_as w v 0 events end.events_are (subst (λ x. Behind w x 0) (sym end.world_is) (behind_none w))
follows_behind (read reg next) w v events answer (value, t) =
    behind_as w v (1 + t.others) events t.count
    (behind_on w t.mid v 1 t.others (access_behind w t.mid t.step)
    (follows_behind (next value) t.mid v t.others answer t.more))
follows_behind (write reg value more) w v events answer t =
    behind_as w v (1 + t.others) events t.count
    (behind_on w t.mid v 1 t.others (access_behind w t.mid t.step)
    (follows_behind more t.mid v t.others answer t.more))
follows_behind (reset stopped more) w v events answer (inl (refused, none, is)) =
    behind_as w v 0 events none (passes_behind w v refused.passes)
follows_behind (reset stopped more) w v events answer (inr t) =
    behind_as w v (1 + t.others) events t.count
    (behind_on w t.mid v 1 t.others (access_behind w t.mid t.step)
    (follows_behind more t.mid v t.others answer t.more))
follows_behind (peek addr len stopped next) w v events answer (inl (past, none, is)) =
    behind_as w v 0 events none (passes_behind w v past.passes)
follows_behind (peek addr len stopped next) w v events answer (inr (octets, m, peeks, f)) =
    behind_as w v (0 + events) events (omega arith)
    (behind_on w m v 0 events (passes_behind w m peeks.passes) (follows_behind (next octets) m v events answer f))
follows_behind (poke addr octets stopped more) w v events answer (inl (why, refused, none, is)) =
    behind_as w v 0 events none (passes_behind w v refused.passes)
follows_behind (poke addr octets stopped more) w v events answer (inr t) =
    behind_as w v (1 + t.others) events t.count
    (behind_on w t.mid v 1 t.others (access_behind w t.mid t.step)
    (follows_behind more t.mid v t.others answer t.more))
follows_behind (room stopped more) w v events answer (inl end) =
    behind_as w v 0 events end.events_are (subst (λ x. Behind w x 0) (sym end.world_is) (behind_none w))
follows_behind (room stopped more) w v events answer (inr f) = follows_behind more w v events answer f

-- ---- where steps back lead

heads : (s t : State) (xs ys : List State) → ◌≡◌ {A = List State} (s ∷ xs) (t ∷ ys) → s ≡ t
heads s t xs ys h = cc

back_shows : (k : ℕ) (m : View) (past : List State) → suc k ≤ length past
    → ((x : View) → k ≤ length x.past → states (after_backs k x) ≡ drop k (states x))
    → states (after_backs k (back_to past m)) ≡ drop k past
back_shows k m [] few on = absurd (omega arith)
back_shows k m (newest ∷ older) few on =
    on (record m { present = newest; past = older; costs = drop 1 m.costs }) (omega arith)

-- after k steps back, what was shown behind the newest k states
backs_show : (k : ℕ) (m : View) → k ≤ length m.past → states (after_backs k m) ≡ drop k (states m)
backs_show zero m few = refl
backs_show (suc k) m few = back_shows k m m.past few (λ x e. backs_show k x e)

-- ---- calls and events, one after another

-- what the one view shows begins as what the other does behind its newest k states
record IsBehind (m n : View) (k : ℕ) : Type 0 where
  rest : List State
  is : states m ≡ drop k (states n) ++ rest

is_behind_on : (m n o : View) (a b : ℕ) → IsBehind m n a → IsBehind n o b → IsBehind m o (a + b)
is_behind_on m n o a b h j =
    let front = drop_front a (drop b (states o)) j.rest in
    record {
      rest = front.0 ++ h.rest;
      is = h.is
          ∙ ap (λ x. drop a x ++ h.rest) j.is
          ∙ ap (λ x. x ++ h.rest) (front.1 ∙ ap (λ x. x ++ front.0) (drop-drop a b (states o)))
          ∙ ap (λ k. (drop k (states o) ++ front.0) ++ h.rest) (omega arith)
          ∙ append_assoc (drop (a + b) (states o)) front.0 h.rest;
    }

call_behind : (A : Type 0) (m : View) (leg : Leg) → IsCall A m leg → IsBehind m leg.now leg.steps
call_behind A m leg c =
    let b = follows_behind c.course c.before c.after c.events c.answer c.follows in
    let same : b.k ≡ leg.steps = omega (arith, b.count, c.count) in
    record {
      rest = b.rest;
      is = ap states (sym c.from) ∙ b.is ∙ ap (λ k. drop k (states c.after.machine) ++ b.rest) same
          ∙ ap (λ n. drop leg.steps (states n) ++ b.rest) c.to;
    }

one_behind : (m : View) (leg : Leg) → IsEvent m leg → IsBehind m leg.now leg.steps
one_behind m leg x =
    let c : ℕ = cost m.present x.event in
    let older : List State = drop (reach m.budget (c ∷ m.costs)) (states m) in
    record {
      rest = older;
      is = event_behind m leg.now.present c ∙ ap (λ n. drop 1 (states n) ++ older) (sym x.does.1)
          ∙ ap (λ k. drop k (states leg.now) ++ older) (sym x.count);
    }

leg_behind : (A : Type 0) (m : View) (leg : Leg) → IsCall A m leg ⊎ IsEvent m leg → IsBehind m leg.now leg.steps
leg_behind A m leg (inl call) = call_behind A m leg call
leg_behind A m leg (inr event) = one_behind m leg event

begins_behind : (m v : View) → Begins v m → IsBehind m v 0
begins_behind m v h = record { rest = h.0; is = h.1 }

legs_behind : (A : Type 0) (m : View) (legs : List Leg) → AreLegs A m legs
    → IsBehind m (after_legs m legs) (all_steps legs)
legs_behind A m [] are = record { rest = []; is = sym (append-nil (states m)) }
legs_behind A m (leg ∷ legs) (from, begins, which, are) =
    let rest : ℕ = leg.steps + all_steps legs in
    let n : View = after_legs leg.now legs in
    subst (IsBehind m n) {x = 0 + rest} {y = rest} (omega arith)
    (is_behind_on m from n 0 rest (begins_behind m from begins)
    (is_behind_on from leg.now n leg.steps (all_steps legs) (leg_behind A from leg which) (legs_behind A leg.now legs are)))

pub back_to_start : (A : Type 0) (l : Layout) (m v : View) (legs : List Leg) → AreLegs A m legs
    → Begins v (after_legs m legs) → all_steps legs ≤ length v.past
    → ((after_backs (all_steps legs) v).present ≡ m.present)
    × Begins (after_backs (all_steps legs) v) m
    × (IsDriven l m.present → IsDriven l (after_backs (all_steps legs) v).present)
back_to_start A l m v legs are begins inside =
    let k : ℕ = all_steps legs in
    let n : View = after_legs m legs in
    let u : View = after_backs k v in
    let b = is_behind_on m n v k 0 (legs_behind A m legs are) (begins_behind n v begins) in
    let shown : states m ≡ states u ++ b.rest
    = b.is ∙ ap (λ j. drop j (states v) ++ b.rest) (omega arith)
    ∙ ap (λ x. x ++ b.rest) (sym (backs_show k v inside)) in
    let is : u.present ≡ m.present = sym (heads m.present u.present m.past (u.past ++ b.rest) shown) in
    (is, (b.rest, shown), λ h. subst (IsDriven l) (sym is) h)
