-- What a course does to the machine is a run of calls.
use Rattle.std.proofs.Common.{◌≡◌, ℕ, Bool, true, false, cond, List, [], ◌∷◌, ◌++◌}
use Rattle.std.proofs.Common.{Result, Ok, Err, refl, sym, ap, subst, inl, inr}
use Rattle.em_mem.specs.Memory.{leaves, part}
use Rattle.em_regs.specs.Table.{offset_of}
use Rattle.em_regs.specs.declared.reg.Reg.TheVariants.{Ctrl}
use Rattle.em_step.specs.Event.{Event, reads, writes, pokes}
use Rattle.em_step.specs.State.{State}
use Rattle.em_step.specs.Step.{step}
use Rattle.em_step.specs.declared.event.Answer.{Answer}
use Rattle.em_step.specs.declared.refusal.Refusal.{Refusal}
use Rattle.em_journal.specs.View.{View}
use Rattle.em_journal.specs.History.{Call, performs, refuses, Does, Run}
use Rattle.em_journal.proofs.HistoryLaws.{run_join}
use Rattle.em_turn.specs.Turn.{event_of}
use Rattle.em_turn.specs.declared.turn.Turn.{Turn}
use Rattle.em_driver.specs.World.{World, present, after_outcome, after_turn, after_turns, first, Passes, Accesses}
use Rattle.em_driver.specs.World.{IsRefused, after_tried, after_other, after_others}
use Rattle.em_driver.specs.Course.{Course, done, read, write, reset, peek, poke, room, Follows}
use Rattle.em_driver.specs.Play as plays
use Rattle.em_driver.specs.Play.{Played, ended, after_access, passed, performed, value_of, play}
use Rattle.em_driver.specs.CourseCalls.{call_of, access_call, turns_calls, passed_calls, access_calls, unless_refused}
use Rattle.em_driver.specs.CourseCalls.{course_calls}

-- ---- turns and accesses

turn_does : (w : World) (t : Turn) (r : Result (Answer × State) Refusal) → step (present w) (event_of t) ≡ r
    → Does w.machine (call_of (event_of t) r) (after_outcome w t r).machine
turn_does w t (Ok r) is = (is, refl)
turn_does w t (Err refusal) is = (inr is, refl)

turns_run : (w : World) (turns : List Turn) → Run w.machine (turns_calls w turns) (after_turns w turns).machine
turns_run w [] = refl
turns_run w (t ∷ turns) =
    ((after_turn w t).machine, turn_does w t (step (present w) (event_of t)) refl, turns_run (after_turn w t) turns)

event_does : (w : World) (e : Event) (r : Result (Answer × State) Refusal) → step (present w) e ≡ r
    → Does w.machine (call_of e r) (after_access w e r).machine
event_does w e (Ok r) is = (is, refl)
event_does w e (Err refusal) is = (inr is, refl)

-- the turns before an access, the access, and what comes after it
access_runs : (w : World) (e : Event) (v : View) (more : List Call) → Run (performed (passed w) e).machine more v
    → Run w.machine (access_calls w e more) v
access_runs w e v more run =
    let m = passed w in
    run_join w.machine m.machine v (passed_calls w) (access_call m e ∷ more) (turns_run w (first w.plan))
    ((performed m e).machine, event_does m e (step (present m) e) refl, run)

-- ---- a course that is played

peek_runs : {A : Type 0} (b : Bool) (m : World) (stopped : A) (more : Played A) (calls : List Call)
    → Run m.machine calls more.world.machine
    → Run m.machine (cond b [] calls) (cond b (ended m stopped) more).world.machine
peek_runs true m stopped more calls run = refl
peek_runs false m stopped more calls run = run

poke_runs : {A : Type 0} (m : World) (e : Event) (stopped : Refusal → A) (r : Result (Answer × State) Refusal)
    (more : Played A) (calls : List Call) → step (present m) e ≡ r
    → Run (after_access m e r).machine calls more.world.machine
    → Run m.machine (call_of e r ∷ unless_refused r calls) (plays.unless_refused m stopped r more).world.machine
poke_runs m e stopped (Ok r) more calls is run = ((after_access m e (Ok r)).machine, (is, refl), run)
poke_runs m e stopped (Err refusal) more calls is run = (m.machine, (inr is, refl), refl)

pub play_runs : {A : Type 0} (course : Course A) (w : World)
    → Run w.machine (course_calls w course) (play w course).world.machine
unfolding play course_calls
play_runs (done answer) w = refl
play_runs (read reg next) w =
    let m = passed w in
    let e = reads (offset_of reg) in
    let value = value_of (step (present m) e) in
    let v = performed m e in
    access_runs w e (play v (next value)).world.machine (course_calls v (next value)) (play_runs (next value) v)
play_runs (write reg value more) w =
    let e = writes (offset_of reg) value in
    let v = performed (passed w) e in
    access_runs w e (play v more).world.machine (course_calls v more) (play_runs more v)
play_runs (reset stopped more) w =
    let e = writes (offset_of Ctrl) 0x0400_0000 in
    let v = performed (passed w) e in
    access_runs w e (play v more).world.machine (course_calls v more) (play_runs more v)
play_runs (peek addr len stopped next) w =
    let m = passed w in
    let memory = (present m).memory in
    let past = leaves (present m).base memory addr len in
    let octets = part memory addr len in
    let calls = course_calls m (next octets) in
    run_join w.machine m.machine (cond past (ended m stopped) (play m (next octets))).world.machine (passed_calls w)
    (cond past [] calls) (turns_run w (first w.plan))
    (peek_runs past m stopped (play m (next octets)) calls (play_runs (next octets) m))
play_runs (poke addr octets stopped more) w =
    let m = passed w in
    let e = pokes addr octets in
    let r = step (present m) e in
    let calls = course_calls (performed m e) more in
    let rest = play (performed m e) more in
    run_join w.machine m.machine (plays.unless_refused m stopped r rest).world.machine (passed_calls w)
    (call_of e r ∷ unless_refused r calls) (turns_run w (first w.plan))
    (poke_runs m e stopped r rest calls refl (play_runs more (performed m e)))
play_runs (room stopped more) w = play_runs more w

-- ---- a course that is followed

-- some calls led from v to w
pub record Runs (v w : View) : Type 0 where
  pub calls : List Call
  pub is : Run v calls w

runs_none : (v : View) → Runs v v
runs_none v = record { calls = []; is = refl }

runs_both : (u v w : View) → Runs u v → Runs v w → Runs u w
runs_both u v w first more =
    record { calls = first.calls ++ more.calls; is = run_join u v w first.calls more.calls first.is more.is }

runs_one : (v w : View) (call : Call) → Does v call w → Runs v w
runs_one v w call did = record { calls = call ∷ []; is = (w, did, refl) }

tried_runs : (w : World) (e : Event) (r : Result (Answer × State) Refusal) → step (present w) e ≡ r
    → Runs w.machine (after_tried w e r).machine
tried_runs w e (Ok r) is = runs_one w.machine (after_tried w e (Ok r)).machine (performs e r.0) (is, refl)
tried_runs w e (Err refusal) is = runs_none w.machine

others_run : (w : World) (events : List Event) → Runs w.machine (after_others w events).machine
others_run w [] = runs_none w.machine
others_run w (e ∷ events) =
    runs_both w.machine (after_other w e).machine (after_others w (e ∷ events)).machine
    (tried_runs w e (step (present w) e) refl) (others_run (after_other w e) events)

passes_run : (w v : World) → Passes w v → Runs w.machine v.machine
passes_run w v passes =
    let mid : World = after_turns w passes.turns in
    let turns : Runs w.machine mid.machine
    = record { calls = turns_calls w passes.turns; is = turns_run w passes.turns } in
    subst (Runs w.machine) (sym (ap (λ x. x.machine) passes.is))
    (runs_both w.machine mid.machine (after_others mid passes.events).machine turns (others_run mid passes.events))

accesses_run : (w v : World) {e : Event} {answer : Answer} → Accesses w e answer v → Runs w.machine v.machine
accesses_run w v {e = e} {answer = answer} access =
    runs_both w.machine access.mid.machine v.machine (passes_run w access.mid access.passes)
    (runs_one access.mid.machine v.machine (performs e answer) access.does)

refused_run : (w v : World) (e : Event) (refusal : Refusal) → IsRefused w e refusal v → Runs w.machine v.machine
refused_run w v e refusal refused =
    runs_both w.machine v.machine v.machine (passes_run w v refused.passes)
    (runs_one v.machine v.machine (refuses e refusal) (refused.refuses, refl))

ends_run : (w v : World) → v ≡ w → Runs w.machine v.machine
ends_run w v is = subst (λ x. Runs w.machine x.machine) (sym is) (runs_none w.machine)

pub follows_run : {A : Type 0} (course : Course A) (w v : World) (n : ℕ) (a : A) → Follows w course n a v
    → Runs w.machine v.machine
unfolding Follows
follows_run (done answer) w v n a h = ends_run w v h.world_is
follows_run (read reg next) w v n a h =
    runs_both w.machine h.1.mid.machine v.machine (accesses_run w h.1.mid h.1.step)
    (follows_run (next h.0) h.1.mid v h.1.others a h.1.more)
follows_run (write reg value more) w v n a h =
    runs_both w.machine h.mid.machine v.machine (accesses_run w h.mid h.step)
    (follows_run more h.mid v h.others a h.more)
follows_run (reset stopped more) w v n a (inl h) = refused_run w v _ _ h.0
follows_run (reset stopped more) w v n a (inr h) =
    runs_both w.machine h.mid.machine v.machine (accesses_run w h.mid h.step)
    (follows_run more h.mid v h.others a h.more)
follows_run (peek addr len stopped next) w v n a (inl h) = passes_run w v h.0.passes
follows_run (peek addr len stopped next) w v n a (inr h) =
    runs_both w.machine h.1.machine v.machine (passes_run w h.1 h.2.passes) (follows_run (next h.0) h.1 v n a h.3)
follows_run (poke addr octets stopped more) w v n a (inl h) = refused_run w v (pokes addr octets) h.0 h.1
follows_run (poke addr octets stopped more) w v n a (inr h) =
    runs_both w.machine h.mid.machine v.machine (accesses_run w h.mid h.step)
    (follows_run more h.mid v h.others a h.more)
follows_run (room stopped more) w v n a (inl h) = ends_run w v h.world_is
follows_run (room stopped more) w v n a (inr h) = follows_run more w v n a h
