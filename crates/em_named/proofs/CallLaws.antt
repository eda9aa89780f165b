-- How many events a call of a driver performs.
use Rattle.std.proofs.Common.{◌≡◌, ℕ, ◌+◌, List, [], ◌∷◌, ◌++◌, length, Result, Ok, Err}
use Rattle.std.proofs.Common.{refl, sym, ap, subst, arith, inl, inr}
use Rattle.em_step.specs.Event.{Event, pokes}
use Rattle.em_step.specs.State.{State}
use Rattle.em_step.specs.Step.{step}
use Rattle.em_step.specs.declared.event.Answer.{Answer}
use Rattle.em_step.specs.declared.refusal.Refusal.{Refusal}
use Rattle.em_journal.specs.History.{Call, performs, refuses, goes_back, is_empty}
use Rattle.em_journal.proofs.HistoryLaws.{run_join}
use Rattle.em_turn.specs.Turn.{event_of}
use Rattle.em_turn.specs.declared.turn.Turn.{Turn}
use Rattle.em_driver.specs.World.{World, present, after_outcome, after_turn, after_turns, Passes, Accesses, IsRefused}
use Rattle.em_driver.specs.World.{after_theirs, after_tried, after_other, after_others}
use Rattle.em_driver.specs.Course.{Course, done, read, write, reset, peek, poke, room, Follows}
use Rattle.em_named.specs.Lines.{performed, backs}
use Rattle.em_named.specs.Counts.{Counts}

pub both-performed : (xs ys : List Call) → length (performed (xs ++ ys)) ≡ length (performed xs) + length (performed ys)
both-performed [] ys = omega arith
both-performed (performs e answer ∷ xs) ys = omega (arith, both-performed xs ys)
both-performed (refuses e refusal ∷ xs) ys = both-performed xs ys
both-performed (goes_back ∷ xs) ys = both-performed xs ys
both-performed (is_empty ∷ xs) ys = both-performed xs ys

pub both-back : (xs ys : List Call) → backs (xs ++ ys) ≡ backs xs + backs ys
both-back [] ys = omega arith
both-back (performs e answer ∷ xs) ys = both-back xs ys
both-back (refuses e refusal ∷ xs) ys = both-back xs ys
both-back (goes_back ∷ xs) ys = omega (arith, both-back xs ys)
both-back (is_empty ∷ xs) ys = both-back xs ys

counts-on : (u v w : World) (a b : ℕ) → Counts u v a → Counts v w b → Counts u w (a + b)
counts-on u v w a b h j = record {
  calls = h.calls ++ j.calls;
  run = run_join u.machine v.machine w.machine h.calls j.calls h.run j.run;
  none = omega (arith, both-back h.calls j.calls, h.none, j.none);
  count = omega (arith, both-performed h.calls j.calls, h.count, j.count);
}

counts-as : (w v : World) (a b : ℕ) → b ≡ a → Counts w v a → Counts w v b
counts-as w v a b e h = subst (Counts w v) (sym e) h

counts-none : (w : World) → Counts w w 0
counts-none w = record { calls = []; run = refl; none = refl; count = refl }

counts-theirs : (w : World) (e : Event) (r : Answer × State) → step (present w) e ≡ Ok r
    → Counts w (after_theirs w e r) 0
counts-theirs w e r is = record {
  calls = performs e r.0 ∷ [];
  run = ((after_theirs w e r).machine, (is, refl), refl);
  none = refl;
  count = omega arith;
}

counts-outcome : (w : World) (t : Turn) (r : Result (Answer × State) Refusal) → step (present w) (event_of t) ≡ r
    → Counts w (after_outcome w t r) 0
counts-outcome w t (Ok r) is = counts-theirs w (event_of t) r is
counts-outcome w t (Err refusal) is = record {
  calls = refuses (event_of t) refusal ∷ [];
  run = (w.machine, (inr is, refl), refl);
  none = refl;
  count = refl;
}

counts-turns : (w : World) (turns : List Turn) → Counts w (after_turns w turns) 0
counts-turns w [] = counts-none w
counts-turns w (t ∷ turns) =
    counts-on w (after_turn w t) (after_turns (after_turn w t) turns) 0 0
    (counts-outcome w t (step (present w) (event_of t)) refl) (counts-turns (after_turn w t) turns)

counts-tried : (w : World) (e : Event) (r : Result (Answer × State) Refusal) → step (present w) e ≡ r
    → Counts w (after_tried w e r) 0
counts-tried w e (Ok r) is = counts-theirs w e r is
counts-tried w e (Err refusal) is = counts-none w

counts-others : (w : World) (events : List Event) → Counts w (after_others w events) 0
counts-others w [] = counts-none w
counts-others w (e ∷ events) =
    counts-on w (after_other w e) (after_others (after_other w e) events) 0 0
    (counts-tried w e (step (present w) e) refl) (counts-others (after_other w e) events)

counts-passes : (w v : World) → Passes w v → Counts w v 0
counts-passes w v p =
    let mid : World = after_turns w p.turns in
    let b = counts-on w mid (after_others mid p.events) 0 0 (counts-turns w p.turns) (counts-others mid p.events) in
    subst (λ x. Counts w x 0) (sym p.is)
    (record { calls = b.calls; run = b.run; none = b.none; count = b.count })

counts-access : (w v : World) {e : Event} {answer : Answer} → Accesses w e answer v → Counts w v 1
counts-access w v {e = e} {answer = answer} a =
    let m : World = a.mid in
    let one : Counts m v 1 = record {
      calls = performs e answer ∷ [];
      run = (v.machine, a.does, refl);
      none = refl;
      count = omega (arith, ap (λ (x : World). x.performed) a.is);
    } in
    counts-on w m v 0 1 (counts-passes w m a.passes) one

counts-refused : (w v : World) (e : Event) (refusal : Refusal) → IsRefused w e refusal v → Counts w v 0
counts-refused w v e refusal r =
    let one : Counts v v 0 = record {
      calls = refuses e refusal ∷ [];
      run = (v.machine, (r.refuses, refl), refl);
      none = refl;
      count = refl;
    } in
    counts-on w v v 0 0 (counts-passes w v r.passes) one

counts-end : (w v : World) → v ≡ w → Counts w v 0
counts-end w v is = subst (λ x. Counts w x 0) (sym is) (counts-none w)

pub follows_counts : {A : Type 0} (course : Course A) (w v : World) (n : ℕ) (a : A) → Follows w course n a v
    → Counts w v n
unfolding Follows
follows_counts (done answer) w v n a h = counts-as w v 0 n h.events_are (counts-end w v h.world_is)
follows_counts (read reg next) w v n a h =
    counts-as w v (1 + h.1.others) n h.1.count
    (counts-on w h.1.mid v 1 h.1.others (counts-access w h.1.mid h.1.step)
    (follows_counts (next h.0) h.1.mid v h.1.others a h.1.more))
follows_counts (write reg value more) w v n a h =
    counts-as w v (1 + h.others) n h.count
    (counts-on w h.mid v 1 h.others (counts-access w h.mid h.step) (follows_counts more h.mid v h.others a h.more))
follows_counts (reset stopped more) w v n a (inl h) = counts-as w v 0 n h.1 (counts-refused w v _ _ h.0)
follows_counts (reset stopped more) w v n a (inr h) =
    counts-as w v (1 + h.others) n h.count
    (counts-on w h.mid v 1 h.others (counts-access w h.mid h.step) (follows_counts more h.mid v h.others a h.more))
follows_counts (peek addr len stopped next) w v n a (inl h) = counts-as w v 0 n h.1 (counts-passes w v h.0.passes)
follows_counts (peek addr len stopped next) w v n a (inr h) =
    counts-as w v (0 + n) n (omega arith)
    (counts-on w h.1 v 0 n (counts-passes w h.1 h.2.passes) (follows_counts (next h.0) h.1 v n a h.3))
follows_counts (poke addr octets stopped more) w v n a (inl h) =
    counts-as w v 0 n h.2 (counts-refused w v (pokes addr octets) h.0 h.1)
follows_counts (poke addr octets stopped more) w v n a (inr h) =
    counts-as w v (1 + h.others) n h.count
    (counts-on w h.mid v 1 h.others (counts-access w h.mid h.step) (follows_counts more h.mid v h.others a h.more))
follows_counts (room stopped more) w v n a (inl h) = counts-as w v 0 n h.events_are (counts-end w v h.world_is)
follows_counts (room stopped more) w v n a (inr h) = follows_counts more w v n a h
