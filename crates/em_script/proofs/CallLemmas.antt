-- The calls that the lines of a script make.
use Rattle.std.proofs.Common.{◌≡◌, ℕ, ◌-◌, List, [], ◌∷◌, ◌++◌, length, min, Some, None, Result, Ok, Err}
use Rattle.std.proofs.Common.{Option, Bool}
use Rattle.std.proofs.Common.{refl, sym, ap, ◌∙◌, inl, inr, arith}
use Rattle.std.proofs.Common.{◌+◌, true, false, cond, nat_lt}
use Rattle.std.specs.Prelude.{replicate}
use Rattle.std.proofs.lemmas.List.{nil_from_length, take_all}
use Rattle.std.proofs.lemmas.Bool.{cases_lt}
use Rattle.em_mem.specs.Memory.{leaves}
use Rattle.em_step.specs.State.{State}
use Rattle.em_step.specs.Event.{Event}
use Rattle.em_step.specs.Step.{step}
use Rattle.em_step.specs.declared.event.Answer.{Answer}
use Rattle.em_step.specs.declared.refusal.Refusal.{Refusal}
use Rattle.em_step.specs.declared.refusal.Refusal.TheVariants.{Memory}
use Rattle.em_journal.specs.View.{View, after_backs}
use Rattle.em_journal.specs.History.{Call, refuses, goes_back, Does, Run, Leads, state, after_step, kept_events}
use Rattle.em_journal.specs.History.{without_last}
use Rattle.em_journal.proofs.BackLaws.{run_back, no_more_back, past_left}
use Rattle.em_journal.proofs.HistoryLaws.{run_join, item_is}
use Rattle.em_script.specs.Session.{Session}
use Rattle.em_line.specs.Command.{Command, event, peek, back, back_by}
use Rattle.em_line.specs.ParsedLine.{ParsedLine, says, asks, plans}
use Rattle.em_script.specs.RefusedAt.{RefusedAt, before, within, named_of}
use Rattle.em_line.specs.Request.{Request}
use Rattle.em_script.specs.Calling.{has_driver, course_of, world_at, done_by, after_call, after_asked, made_calls}
use Rattle.em_script.specs.Calling.{asked_calls, MayBeRefusedAt}
use Rattle.em_turn.specs.declared.turn.Turn.{Turn}
use Rattle.em_driver.proofs.course.RunOfCalls.{play_runs}
use Rattle.em_script.specs.declared.outcome.Refused.{Refused}
use Rattle.em_script.specs.Reply.{step_call, back_call, call_reply, done_reply, refusal_reply, calls_of, reply}
use Rattle.em_script.specs.Reply.{line_calls, after_line, after_plan, IsAllowed, IsAllowedTo}
use Rattle.em_script.specs.PlayedLine.{PlayedLine, AreAllowed, played_calls, after_played, calls, after_all}
use Rattle.em_line.specs.Grammar.{parsed_line}
use Rattle.em_script.specs.ScriptText.{IsFold}

-- one call
run_one : (v w : View) (call : Call) → Does v call w → Run v (call ∷ []) w
run_one v w call did = (w, did, refl)

-- ---- what a command's calls do

step_does : (e : Event) (machine : View) (r : Result (Answer × State) Refusal) → step machine.present e ≡ r
    → Does machine (step_call e r) (call_reply (step_call e r) machine).machine
step_does e machine (Ok r) is =
    let s = machine.present in
    let after : after_step s (step s e) ≡ r.1 = ap (after_step s) is in
    (is ∙ ap (λ x. Ok (r.0, x)) (sym after), refl)
step_does e machine (Err refusal) is = (inr is, refl)

back_does : (machine : View) (past : List State) → machine.past ≡ past
    → Does machine (back_call past) (call_reply (back_call past) machine).machine
back_does machine [] is = (is, refl)
back_does machine (s ∷ older) is = (rw is (omega arith), refl)

-- as many steps back as there are, where more are asked for
backs_run : (most : ℕ) (machine : View)
    → Run machine (replicate (min most (length machine.past)) goes_back) (after_backs most machine)
backs_run most machine =
    elim (cases_lt (length machine.past) most) [
      | inl lt ↦
          let n = length machine.past in
          let w = after_backs n machine in
          let none : w.past ≡ [] = nil_from_length w.past (omega (arith, past_left n machine w refl)) in
          let count : min most n ≡ n = omega arith in
          rw count (run_back n machine _ (omega arith) (sym (no_more_back n most machine w refl (omega arith) none)))
      | inr le ↦
          let count : min most (length machine.past) ≡ most = omega arith in
          rw count (run_back most machine (after_backs most machine) le refl)
    ]

-- a look leaves the machine as it was
look_leaves : (b : Bool) (machine : View) (text other : List ℕ) (why : Refused)
    → (cond b (refusal_reply text why machine) (done_reply other machine)).machine ≡ machine
look_leaves true machine text other why = refl
look_leaves false machine text other why = refl

pub command_runs : (memory : Option RefusedAt) (command : Command) (machine : View) → IsAllowedTo memory command machine
    → Run machine (calls_of memory command machine) (reply memory command machine).machine
command_runs None (event e) machine allowed =
    run_one machine _ (step_call e (step machine.present e)) (step_does e machine (step machine.present e) refl)
command_runs (Some before) (event e) machine allowed =
    run_one machine machine (refuses e Memory) (inl (refl, allowed.0, allowed.1), refl)
command_runs (Some (within did calls)) (event e) machine allowed = absurd allowed
command_runs memory back machine allowed =
    run_one machine _ (back_call machine.past) (back_does machine machine.past refl)
command_runs memory (back_by most) machine allowed = backs_run most machine
command_runs memory (peek addr n) machine allowed =
    look_leaves (leaves machine.present.base machine.present.memory addr n) machine _ _ _
command_runs memory _ machine allowed = refl

-- what is asked of a driver
call_runs : (memory : Option RefusedAt) (request : Request) (session : Session) → MayBeRefusedAt memory request session
    → Run session.machine (made_calls memory request session)
    (after_call (done_by (named_of memory) request session)).machine
call_runs None request session allowed =
    play_runs (course_of request (world_at session)) (world_at session)
call_runs (Some before) request session allowed = absurd allowed
call_runs (Some (within did calls)) request session allowed = allowed.2

request_runs : (memory : Option RefusedAt) (request : Request) (session : Session) (stands : Bool)
    → has_driver request session ≡ stands → MayBeRefusedAt memory request session
    → Run session.machine (asked_calls memory request session) (after_asked (named_of memory) request session).machine
request_runs memory request session true is allowed = rw is (call_runs memory request session allowed)
request_runs memory request session false is allowed = rw is refl

-- a plan is set, or not
plan_runs : (memory : Option RefusedAt) (plan : List (List Turn)) (session : Session)
    → Run session.machine [] (after_plan memory plan session).machine
plan_runs None plan session = refl
plan_runs (Some refused) plan session = refl

line_runs : (memory : Option RefusedAt) (parsed : ParsedLine) (session : Session) → IsAllowed memory parsed session
    → Run session.machine (line_calls memory parsed session) (after_line memory parsed session).machine
line_runs memory (says command) session allowed = command_runs memory command session.machine allowed
line_runs memory (asks request) session allowed =
    request_runs memory request session (has_driver request session) refl allowed
line_runs memory (plans plan) session allowed = plan_runs memory plan session
line_runs memory _ session allowed = refl

-- ---- what the calls of a script's lines do

pub all_run : (all : List PlayedLine) (session : Session) → AreAllowed all session
    → Run session.machine (calls all session) (after_all all session).machine
all_run [] session allowed = refl
all_run (x ∷ xs) session allowed =
    let after = after_played x session in
    run_join session.machine after.machine (after_all xs after).machine (played_calls x session) (calls xs after)
    (line_runs x.refused (parsed_line x.line) session allowed.0) (all_run xs after allowed.1)

-- the present state is the first of all that a view shows
present_is : (budget : ℕ) (s : State) (made : List Call) (v : View) → Leads budget s made v
    → v.present ≡ state s (kept_events made)
present_is budget s made v leads =
    let events = kept_events made in
    let item = item_is budget s made v leads 0 (omega arith) in
    let all : without_last 0 events ≡ events = take_all (length events - 0) events (omega arith) in
    let here : Some v.present ≡ Some (state s events) = item ∙ ap (λ l. Some (state s l)) all in
    cc

pub run_is_fold : (all : List PlayedLine) (first now : Session) → Run first.machine (calls all first) now.machine
    → IsFold all first now
run_is_fold all first now run = λ budget s before leads.
    present_is budget s (before ++ calls all first) now.machine
    (run_join _ first.machine now.machine before (calls all first) leads run)
