-- What lines did with events is what the calls did that they make.
use Rattle.std.proofs.Common.{◌≡◌, ℕ, zero, suc, ◌+◌, nat_lt, Bool, true, false, cond, List, [], ◌∷◌, ◌++◌}
use Rattle.std.proofs.Common.{length, min, Option, Some, None, Result, Ok, Err, refl, ap, arith}
use Rattle.std.specs.Prelude.{replicate}
use Rattle.em_mem.specs.Memory.{leaves, part}
use Rattle.em_regs.specs.Table.{offset_of}
use Rattle.em_regs.specs.declared.reg.Reg.TheVariants.{Ctrl}
use Rattle.em_step.specs.Event.{Event, reads, writes, pokes}
use Rattle.em_step.specs.State.{State}
use Rattle.em_step.specs.Step.{step}
use Rattle.em_step.specs.declared.event.Answer.{Answer}
use Rattle.em_step.specs.declared.refusal.Refusal.{Refusal}
use Rattle.em_journal.specs.View.{View}
use Rattle.em_journal.specs.History.{Call, goes_back}
use Rattle.em_journal.proofs.HistoryLaws.{run_join}
use Rattle.em_turn.specs.Turn.{event_of}
use Rattle.em_turn.specs.declared.turn.Turn.{Turn}
use Rattle.em_driver.specs.World.{World, present, after_outcome, after_turn, after_turns, first}
use Rattle.em_driver.specs.Course.{Course, done, read, write, reset, peek, poke, room}
use Rattle.em_driver.specs.Play as plays
use Rattle.em_driver.specs.Play.{Played, ended, counted, after_access, passed, value_of, play}
use Rattle.em_driver.specs.CourseCalls.{call_of, turns_calls, passed_calls, unless_refused, course_calls}
use Rattle.em_driver.proofs.course.RunOfCalls.{play_runs}
use Rattle.em_named.specs.Lines.{IsDid, performed, backs, all_calls}
use Rattle.em_named.specs.declared.did.Did.TheVariants.{Performed, TookBack}
use Rattle.em_named.proofs.CallLaws.{both-performed, both-back, follows_counts}
use Rattle.em_line.specs.Command.{Command, event, back, back_by}
use Rattle.em_line.specs.Grammar.{parsed_line}
use Rattle.em_line.specs.ParsedLine.{ParsedLine, says, asks, plans}
use Rattle.em_line.specs.Request.{Request}
use Rattle.em_script.specs.Calling.{has_driver, course_of, world_at, done_by, after_call, MayBeRefusedAt}
use Rattle.em_script.specs.Did.{command_did, did_of, all_did, events_in, DidSo, AllDidSo}
use Rattle.em_script.specs.PlayedLine.{PlayedLine, AreAllowed, after_played, after_all}
use Rattle.em_script.specs.RefusedAt.{RefusedAt, before, within, named_of}
use Rattle.em_script.specs.Reply.{step_call, event_call, back_call, calls_of, after_line, after_plan, IsAllowed}
use Rattle.em_script.specs.Session.{Session}
use Rattle.em_script.proofs.CallLemmas.{command_runs}

-- ---- a course as it is played

-- the calls go never back, and perform the events that were counted and those of the turns
record Counted (w : World) (calls : List Call) (events : ℕ) (v : World) : Type 0 where
  none : backs calls ≡ 0
  count : length (performed calls) + w.performed ≡ events + v.performed

counted_none : (w : World) → Counted w [] 0 w
counted_none w = record { none = refl; count = refl }

counted_on : (u v w : World) (xs ys : List Call) (n : ℕ) → Counted u xs 0 v → Counted v ys n w
    → Counted u (xs ++ ys) n w
counted_on u v w xs ys n h j = record {
  none = omega (arith, both-back xs ys, h.none, j.none);
  count = omega (arith, both-performed xs ys, h.count, j.count);
}

-- a turn, and what comes after it
counted_turn : (w v : World) (t : Turn) (r : Result (Answer × State) Refusal) (calls : List Call)
    → Counted (after_outcome w t r) calls 0 v → Counted w (call_of (event_of t) r ∷ calls) 0 v
counted_turn w v t (Ok r) calls h = record { none = h.none; count = omega (arith, h.count) }
counted_turn w v t (Err refusal) calls h = record { none = h.none; count = omega (arith, h.count) }

counted_turns : (w : World) (turns : List Turn) → Counted w (turns_calls w turns) 0 (after_turns w turns)
counted_turns w [] = counted_none w
counted_turns w (t ∷ turns) =
    let m = after_turn w t in
    counted_turn w (after_turns m turns) t (step (present w) (event_of t)) (turns_calls m turns)
    (counted_turns m turns)

-- the turns before an access leave no more to count
counted_passed : (w v : World) (calls : List Call) (n : ℕ) → Counted (passed w) calls n v
    → Counted w (passed_calls w ++ calls) n v
counted_passed w v calls n h =
    let turns = counted_turns w (first w.plan) in
    counted_on w (passed w) v (passed_calls w) calls n (record { none = turns.none; count = turns.count }) h

abbrev CountedAll : {A : Type 0} → World → List Call → Played A → Type 0
CountedAll w calls did = Counted w calls did.events did.world

-- an access, and what comes after it
counted_access : {A : Type 0} (m : World) (e : Event) (r : Result (Answer × State) Refusal) (calls : List Call)
    (did : Played A) → CountedAll (after_access m e r) calls did → CountedAll m (call_of e r ∷ calls) (counted r did)
counted_access m e (Ok r) calls did h = record { none = h.none; count = omega (arith, h.count) }
counted_access m e (Err refusal) calls did h = record { none = h.none; count = omega (arith, h.count) }

counted_peek : {A : Type 0} (past : Bool) (m : World) (stopped : A) (calls : List Call) (did : Played A)
    → CountedAll m calls did → CountedAll m (cond past [] calls) (cond past (ended m stopped) did)
counted_peek true m stopped calls did h = counted_none m
counted_peek false m stopped calls did h = h

counted_poke : {A : Type 0} (m : World) (e : Event) (stopped : Refusal → A) (r : Result (Answer × State) Refusal)
    (calls : List Call) (did : Played A) → CountedAll (after_access m e r) calls did
    → CountedAll m (call_of e r ∷ unless_refused r calls) (plays.unless_refused m stopped r did)
counted_poke m e stopped (Ok r) calls did h = counted_access m e (Ok r) calls did h
counted_poke m e stopped (Err refusal) calls did h = record { none = refl; count = refl }

play_counts : {A : Type 0} (course : Course A) (w : World) → CountedAll w (course_calls w course) (play w course)
unfolding play course_calls
play_counts (done answer) w = counted_none w
play_counts (read reg next) w =
    let m = passed w in
    let e = reads (offset_of reg) in
    let r = step (present m) e in
    let v = after_access m e r in
    let did = play v (next (value_of r)) in
    let calls = course_calls v (next (value_of r)) in
    counted_passed w did.world (call_of e r ∷ calls) (counted r did).events
    (counted_access m e r calls did (play_counts (next (value_of r)) v))
play_counts (write reg value more) w =
    let m = passed w in
    let e = writes (offset_of reg) value in
    let r = step (present m) e in
    let v = after_access m e r in
    counted_passed w (play v more).world (call_of e r ∷ course_calls v more) (counted r (play v more)).events
    (counted_access m e r (course_calls v more) (play v more) (play_counts more v))
play_counts (reset stopped more) w =
    let m = passed w in
    let e = writes (offset_of Ctrl) 0x0400_0000 in
    let r = step (present m) e in
    let v = after_access m e r in
    counted_passed w (play v more).world (call_of e r ∷ course_calls v more) (counted r (play v more)).events
    (counted_access m e r (course_calls v more) (play v more) (play_counts more v))
play_counts (peek addr len stopped next) w =
    let m = passed w in
    let memory = (present m).memory in
    let past = leaves (present m).base memory addr len in
    let octets = part memory addr len in
    let did = play m (next octets) in
    let calls = course_calls m (next octets) in
    let all = cond past (ended m stopped) did in
    counted_passed w all.world (cond past [] calls) all.events
    (counted_peek past m stopped calls did (play_counts (next octets) m))
play_counts (poke addr octets stopped more) w =
    let m = passed w in
    let e = pokes addr octets in
    let r = step (present m) e in
    let v = after_access m e r in
    let all = plays.unless_refused m stopped r (play v more) in
    counted_passed w all.world (call_of e r ∷ unless_refused r (course_calls v more)) all.events
    (counted_poke m e stopped r (course_calls v more) (play v more) (play_counts more v))
play_counts (room stopped more) w = play_counts more w

-- ---- a command

step_did : (e : Event) (r : Result (Answer × State) Refusal)
    → IsDid (step_call e r ∷ []) (Performed (events_in (step_call e r)))
step_did e (Ok r) = (refl, refl)
step_did e (Err refusal) = (refl, refl)

event_did : (memory : Option RefusedAt) (e : Event) (machine : View)
    → IsDid (event_call memory e machine ∷ []) (Performed (events_in (event_call memory e machine)))
event_did None e machine = step_did e (step machine.present e)
event_did (Some refused) e machine = (refl, refl)

back_did : (past : List State) → IsDid (back_call past ∷ []) (TookBack (min 1 (length past)))
back_did [] = (refl, refl)
back_did (s ∷ older) = (refl, omega arith)

backs_did : (n : ℕ) → IsDid (replicate n goes_back) (TookBack n)
backs_did zero = (refl, refl)
backs_did (suc n) =
    let more = backs_did n in
    (more.0, ap suc more.1)

command_is_did : (memory : Option RefusedAt) (command : Command) (machine : View)
    → IsDid (calls_of memory command machine) (command_did memory command machine)
command_is_did memory (event e) machine = event_did memory e machine
command_is_did memory back machine = back_did machine.past
command_is_did memory (back_by most) machine = backs_did (min most (length machine.past))
command_is_did memory _ machine = (refl, refl)

-- ---- what is asked of a driver

abbrev after_called : Option RefusedAt → Request → Session → Session
after_called memory request session = after_call (done_by (named_of memory) request session)

called_did : (memory : Option RefusedAt) (request : Request) (session : Session)
    → MayBeRefusedAt memory request session
    → DidSo session (after_called memory request session) (Performed (after_called memory request session).events)
called_did None request session allowed =
    let w = world_at session in
    let course = course_of request w in
    let counts = play_counts course w in
    record {
      calls = course_calls w course;
      run = play_runs course w;
      is = (omega (arith, counts.count), counts.none);
    }
called_did (Some before) request session allowed = absurd allowed
called_did (Some (within did calls)) request session allowed =
    let w = world_at session in
    let counts = follows_counts (course_of request w) w did.world did.events did.answer allowed.1.0 in
    record { calls = counts.calls; run = counts.run; is = (omega (arith, counts.count), counts.none) }

asked_did : (memory : Option RefusedAt) (request : Request) (session : Session) (stands : Bool)
    → has_driver request session ≡ stands → MayBeRefusedAt memory request session
    → DidSo session (after_line memory (asks request) session) (did_of memory (asks request) session)
asked_did memory request session true is allowed = rw is (called_did memory request session allowed)
asked_did memory request session false is allowed = rw is (record { calls = []; run = refl; is = (refl, refl) })

-- ---- lines

-- a plan is set, or not
plan_did : (memory : Option RefusedAt) (plan : List (List Turn)) (session : Session)
    → DidSo session (after_plan memory plan session) (Performed 0)
plan_did None plan session = record { calls = []; run = refl; is = (refl, refl) }
plan_did (Some refused) plan session = record { calls = []; run = refl; is = (refl, refl) }

pub line_did : (memory : Option RefusedAt) (parsed : ParsedLine) (session : Session) → IsAllowed memory parsed session
    → DidSo session (after_line memory parsed session) (did_of memory parsed session)
line_did memory (says command) session allowed = record {
  calls = calls_of memory command session.machine;
  run = command_runs memory command session.machine allowed;
  is = command_is_did memory command session.machine;
}
line_did memory (asks request) session allowed =
    asked_did memory request session (has_driver request session) refl allowed
line_did memory (plans plan) session allowed = plan_did memory plan session
line_did memory _ session allowed = record { calls = []; run = refl; is = (refl, refl) }

pub lines_did : (all : List PlayedLine) (session : Session) → AreAllowed all session
    → AllDidSo session (after_all all session) (all_did all session)
lines_did [] session allowed = record { lines = []; run = refl; are = tt }
lines_did (x ∷ xs) session allowed =
    let after = after_played x session in
    let one = line_did x.refused (parsed_line x.line) session allowed.0 in
    let more = lines_did xs after allowed.1 in
    record {
      lines = one.calls ∷ more.lines;
      run = run_join session.machine after.machine (after_all xs after).machine one.calls (all_calls more.lines)
          one.run more.run;
      are = (one.is, more.are);
    }
