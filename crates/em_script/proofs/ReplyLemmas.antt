-- What single commands do.
use Rattle.std.proofs.Common.{◌≡◌, ℕ, ◌<◌, Bool, true, false, ◌++◌, List, [], ◌∷◌, length, Option, Some, None, Result}
use Rattle.std.proofs.Common.{refl, sym, ap, ◌∙◌}
use Rattle.std.proofs.Common.{subst, inl, inr, arith}
use Rattle.std.proofs.lemmas.Bool.{false≢true}
use Rattle.em_step.specs.State.{State}
use Rattle.em_step.specs.Event.{Event}
use Rattle.em_step.specs.Step.{step}
use Rattle.em_step.specs.Cost.{cost}
use Rattle.em_step.specs.declared.event.Answer.{Answer}
use Rattle.em_step.specs.declared.refusal.Refusal.{Refusal}
use Rattle.em_journal.specs.View.{View, after_event}
use Rattle.em_journal.specs.History.{Call, performs, refuses, goes_back, is_empty, Does, after_step}
use Rattle.em_text.specs.declared.writer.WriteFailed.{WriteFailed}
use Rattle.em_script.specs.declared.outcome.Outcome.{Outcome}
use Rattle.em_script.specs.declared.outcome.Outcome.TheVariants as outcome
use Rattle.em_line.specs.Command.{Command, event}
use Rattle.em_step.specs.declared.refusal.Refusal.TheVariants.{Memory}
use Rattle.em_turn.specs.declared.turn.Turn.{Turn}
use Rattle.em_line.specs.ParsedLine.{says, asks, plan_line}
use Rattle.em_line.specs.Request.{Request, plain_call}
use Rattle.em_line.specs.declared.driver_call.DriverCall.{DriverCall as Asked}
use Rattle.em_line.specs.declared.driver_call.DriverCall.TheVariants as asked
use Rattle.em_script.specs.DriverAnswer.{DriverAnswer, driver_reply_text, call_text, counts_text, plan_text}
use Rattle.em_script.specs.DriverAnswer.{driver_answer_text}
use Rattle.em_script.specs.DriverAnswer.{driver_answer_outcome, plain as plain_answer}
use Rattle.em_script.specs.Calling.{has_driver, IsCalled, CanBeDone, done_by, did_of, after_call, plan_counts}
use Rattle.em_script.specs.Calling.{world_at, course_of}
use Rattle.em_journal.specs.History.{Run}
use Rattle.em_driver.specs.Play.{Played}
use Rattle.em_driver.specs.World.{World}
use Rattle.em_driver.proofs.course.RunOfCalls.{follows_run}
use Rattle.em_script.proofs.CallingLemmas.{request_happens}
use Rattle.em_script.specs.declared.driver_reply.DriverReply.{DriverReply}
use Rattle.std.specs.Prelude.{IsSome, IsTrue}
use Rattle.em_script.specs.Session.{Session}
use Rattle.em_script.specs.RefusedAt.{before, within}
use Rattle.em_output.specs.Output.{answer_text, refusal_text, done_text}
use Rattle.em_script.specs.Outcome.{Prints}
use Rattle.em_script.specs.declared.outcome.Refused.TheVariants.{By}
use Rattle.em_script.specs.Reply.{step_call, event_call, back_call, call_reply, Gives, Obeys, Performs}

-- ---- what prints one call's reply prints that of the same call

gives_of : (first : View) {call other : Call} {now : View} {old new : Option (List ℕ)}
    {result : Result Outcome WriteFailed} → call ≡ other → Gives (call_reply call first) now old new result
    → Gives (call_reply other first) now old new result
gives_of first {now = now} {old = old} {new = new} {result = result} same gives =
    subst (λ (c : Call). Gives (call_reply c first) now old new result) same gives

by_step : {e : Event} {first now : View} {old new : Option (List ℕ)}
    {result : Result Outcome WriteFailed} → Gives (call_reply (event_call None e first) first) now old new result
    → Obeys (event e) first now old new result
by_step gives = record { memory = None; allowed = tt; gives = gives }

-- ---- events

-- an event was performed
pub event_performed : {e : Event} {first now : View} {old new : Option (List ℕ)}
    {result : Result Outcome WriteFailed} (answer : Answer) → Does first (performs e answer) now
    → Prints (answer_text answer) (outcome.Answered answer) old new result
    → Obeys (event e) first now old new result
event_performed {e = e} {first = first} {now = now} answer did prints =
    let s = first.present in
    let after : now.present ≡ after_step s (step s e) = ap (after_step s) (sym did.0) in
    by_step (gives_of first (sym (ap (step_call e) did.0))
    record { prints = prints; machine = did.1 ∙ ap (λ (x : State). after_event first x (cost s e)) after })

-- an event was refused, by its step or for memory
pub event_refused : {e : Event} {first now : View} {old new : Option (List ℕ)}
    {result : Result Outcome WriteFailed} (refusal : Refusal) → Does first (refuses e refusal) now
    → Prints (refusal_text refusal) (outcome.Refused (By refusal)) old new result
    → Obeys (event e) first now old new result
event_refused {e = e} {first = first} refusal did prints =
    elim did.0 [
      | inl refused ↦ record {
        memory = Some before;
        allowed = (refused.1, refused.2);
        gives = record { prints = rw refused.0 at prints; machine = did.1 };
      }
      | inr is ↦ by_step (gives_of first (sym (ap (step_call e) is)) record { prints = prints; machine = did.1 })
    ]

-- ---- steps back

back_call-some : (past : List State) → 0 < length past → goes_back ≡ back_call past
back_call-some [] some = absurd (omega arith)
back_call-some (s ∷ older) some = refl

-- a step back was taken
pub back_given : (first : View) {now : View} {old new : Option (List ℕ)} {result : Result Outcome WriteFailed}
    → 0 < length first.past → Gives (call_reply goes_back first) now old new result
    → Gives (call_reply (back_call first.past) first) now old new result
back_given first some gives = gives_of first (back_call-some first.past some) gives

-- there was nothing to take back
pub empty_given : (first : View) {now : View} {old new : Option (List ℕ)} {result : Result Outcome WriteFailed}
    → first.past ≡ [] → Gives (call_reply is_empty first) now old new result
    → Gives (call_reply (back_call first.past) first) now old new result
empty_given first none gives = gives_of first (ap back_call (sym none)) gives

-- ---- a command in a session

-- what is done to a session's machine leaves the rest of the session
pub obeyed : (number : ℕ) {command : Command} (first : Session) (m : View) {old new : Option (List ℕ)}
    {result : Result Outcome WriteFailed} → Obeys command first.machine m old new result
    → Performs number (says command) first (record first { machine = m }) old new result
obeyed number first m obeys = record {
  memory = obeys.memory;
  allowed = obeys.allowed;
  prints = obeys.gives.prints;
  session = ap (λ machine. record first { machine = machine }) obeys.gives.machine;
}

-- ---- plans

-- a plan was set
pub plan_set : {first now : Session} {old new : Option (List ℕ)} {result : Result Outcome WriteFailed} (number : ℕ)
    (said : Option (List (List Turn))) (plan : List (List Turn)) → said ≡ Some plan
    → now ≡ record first { plan = Some plan } → Prints done_text outcome.Done old new result
    → Performs number (plan_line said) first now old new result
plan_set number None plan is after prints = cc is
plan_set {first = first} number (Some said) plan is after prints = record {
  memory = None;
  allowed = tt;
  prints = prints;
  session = after ∙ sym (ap (λ (p : Option (List (List Turn))). record first { plan = p }) is);
}

-- a plan found no memory
pub plan_refused : {first now : Session} {old new : Option (List ℕ)} {result : Result Outcome WriteFailed} (number : ℕ)
    (said : Option (List (List Turn))) → IsSome said → now ≡ first
    → Prints (refusal_text Memory) (outcome.Refused (By Memory)) old new result
    → Performs number (plan_line said) first now old new result
plan_refused number None some same prints = cc some
plan_refused number (Some said) some same prints =
    record { memory = Some before; allowed = tt; prints = prints; session = same }

-- ---- calls of a driver

-- the counts of the plan's turns are told as the world has them
told : (plan : Option (List (List Turn))) (reply : DriverReply) (w : World) → reply.plan ≡ plan_counts plan w
    → driver_reply_text reply ≡ call_text plan (did_of reply w)
told plan reply w is =
    ap (λ line. driver_answer_text reply.events (plain_answer reply.answer) ++ line)
    (ap counts_text is ∙ by_plan plan w)
  where
    by_plan : (plan : Option (List (List Turn))) (w : World) → counts_text (plan_counts plan w) ≡ plan_text plan w
    by_plan None w = refl
    by_plan (Some plan) w = refl

-- a call that did so was made, with memory or named
by_named : {first now : Session} {old new : Option (List ℕ)} {result : Result Outcome WriteFailed} (number : ℕ)
    (request : Request) (did : Played DriverAnswer) (stand : Bool) → has_driver request first ≡ stand → IsTrue stand
    → (calls : List Call) → Run first.machine calls did.world.machine
    → (named : Option (Played DriverAnswer)) → CanBeDone named request first → did ≡ done_by named request first
    → now ≡ after_call did
    → Prints (call_text first.plan did) (driver_answer_outcome did.answer) old new result
    → Performs number (asks request) first now old new result
by_named number request did false is stands calls run named can same after prints = absurd (false≢true stands)
by_named {first = first} number request did true is stands calls run None can same after prints = record {
  memory = None;
  allowed = tt;
  prints = rw is (rw same at prints);
  session = rw is (after ∙ ap after_call same);
}
by_named {first = first} number request did true is stands calls run (Some named) can same after prints = record {
  memory = Some (within named calls);
  allowed = (rw is stands, can, rw same at run);
  prints = rw is (rw same at prints);
  session = rw is (after ∙ ap after_call same);
}

-- what a call printed and left
pub call_made : {first now : Session} {old new : Option (List ℕ)} {result : Result Outcome WriteFailed} (number : ℕ)
    (request : Request) (reply : DriverReply) → IsTrue (has_driver request first) → IsCalled request first now reply
    → Prints (driver_reply_text reply) (driver_answer_outcome (plain_answer reply.answer)) old new result
    → Performs number (asks request) first now old new result
call_made {first = first} {now = now} {old = old} {new = new} {result = result} number request reply stands made
    prints =
    let w = world_at first in
    let course = course_of request w in
    let did = did_of reply made.world in
    let happens = request_happens request w made.world reply.events (plain_answer reply.answer) made.follows refl in
    let runs = follows_run course w made.world reply.events (plain_answer reply.answer) made.follows in
    let text : driver_reply_text reply ≡ call_text first.plan did = told first.plan reply made.world made.plan in
    by_named number request did (has_driver request first) refl stands runs.calls runs.is happens.named happens.can
    happens.is made.session (rw text at prints)

-- a call needs a driver that stands
pub has_driver_call : (call : Asked) (session : Session) → has_driver (plain_call call) session ≡ session.started
has_driver_call (asked.Send packets) session = refl
has_driver_call (asked.Receive most) session = refl
has_driver_call asked.Stats session = refl
has_driver_call asked.Address session = refl
has_driver_call (asked.SetAddress octets) session = refl
