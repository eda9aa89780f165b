-- What a command prints, how its line counts, what it leaves, and which calls it makes.
use Rattle.std.specs.Prelude.{◌≡◌, ℕ, ◌+◌, ◌==◌, Bool, true, false, not, nat_lt, min, if◌then◌else◌, List, [], ◌∷◌}
use Rattle.std.specs.Prelude.{length}
use Rattle.std.specs.Prelude.{replicate, bit_and, Option, Some, None, Result, Ok, Err, IsTrue}
use Rattle.em_mem.specs.Memory.{leaves, part}
use Rattle.em_latch.specs.Latches.{causes, mask}
use Rattle.em_step.specs.State.{State}
use Rattle.em_step.specs.Event.{Event}
use Rattle.em_step.specs.Step.{step, takes_memory, needs_memory}
use Rattle.em_step.specs.Cost.{cost}
use Rattle.em_step.specs.declared.event.Answer.{Answer}
use Rattle.em_step.specs.declared.refusal.Refusal.{Refusal}
use Rattle.em_step.specs.declared.refusal.Refusal.TheVariants.{Range, Memory}
use Rattle.em_journal.specs.View.{View, after_event, after_back, after_backs}
use Rattle.em_journal.specs.History.{Call, performs, refuses, goes_back, is_empty, after_step}
use Rattle.em_text.specs.Writer.{hex_line_text}
use Rattle.em_text.specs.declared.writer.WriteFailed.{WriteFailed}
use Rattle.em_script.specs.declared.outcome.Outcome.{Outcome}
use Rattle.em_script.specs.declared.outcome.Outcome.TheVariants as outcome
use Rattle.em_script.specs.declared.outcome.Refused.{Refused}
use Rattle.em_script.specs.declared.outcome.Refused.TheVariants.{By, Empty}
use Rattle.em_script.specs.Outcome.{Prints}
use Rattle.em_script.specs.Session.{Session}
use Rattle.em_line.specs.declared.look.Look.{Look}
use Rattle.em_line.specs.declared.look.Look.TheVariants.{InterruptLine, Registers, Wire}
use Rattle.em_line.specs.Command as command
use Rattle.em_line.specs.Command.{Command, event}
use Rattle.em_line.specs.ParsedLine.{ParsedLine, brings_octets, silent, bad, says, asks, plans}
use Rattle.em_script.specs.RefusedAt.{RefusedAt, before, within, named_of}
use Rattle.em_script.specs.Calling.{asked_text, asked_outcome, after_asked, asked_calls, MayBeRefusedAt}
use Rattle.em_turn.specs.declared.turn.Turn.{Turn}
use Rattle.em_output.specs.Output.{done_text, bit_text, back_text, bad_line_text, answer_text, refusal_text, empty_text}
use Rattle.em_output.specs.Registers.{registers_text}
use Rattle.em_output.specs.Wire.{wire_text}

-- ---- the calls

-- an event, by its step
abbrev pub step_call : Event → Result (Answer × State) Refusal → Call
step_call e (Ok r) = performs e r.0
step_call e (Err refusal) = refuses e refusal

-- an event, by whether memory was refused to it
abbrev pub event_call : Option RefusedAt → Event → View → Call
event_call None e machine = step_call e (step machine.present e)
event_call (Some refused) e machine = refuses e Memory

-- a step back, by the states that there are to go back to
abbrev pub back_call : List State → Call
back_call [] = is_empty
back_call (s ∷ older) = goes_back

-- those that a command makes, by where memory was refused
abbrev pub calls_of : Option RefusedAt → Command → View → List Call
calls_of memory (event e) machine = event_call memory e machine ∷ []
calls_of memory command.back machine = back_call machine.past ∷ []
calls_of memory (command.back_by most) machine = replicate (min most (length machine.past)) goes_back
calls_of memory _ machine = []

-- ---- replies

pub record Reply : Type 0 where
  pub text : List ℕ
  pub outcome : Outcome
  pub machine : View

-- what was asked for was done
abbrev pub done_reply : List ℕ → View → Reply
done_reply text machine = record { text = text; outcome = outcome.Done; machine = machine }

-- an event was performed, and answered so
abbrev pub answered_reply : Answer → View → Reply
answered_reply answer machine =
    record { text = answer_text answer; outcome = outcome.Answered answer; machine = machine }

-- what was refused changed nothing
abbrev pub refusal_reply : List ℕ → Refused → View → Reply
refusal_reply text refused machine = record { text = text; outcome = outcome.Refused refused; machine = machine }

-- to a single call: a performed event prints its answer
abbrev pub call_reply : Call → View → Reply
call_reply (performs e answer) machine =
    let s = machine.present in
    answered_reply answer (after_event machine (after_step s (step s e)) (cost s e))
call_reply (refuses e refusal) machine = refusal_reply (refusal_text refusal) (By refusal) machine
call_reply goes_back machine = done_reply done_text (after_back machine)
call_reply is_empty machine = refusal_reply empty_text Empty machine

-- to a look at n octets of memory, from an address on
abbrev pub peek_reply : ℕ → ℕ → View → Reply
peek_reply addr n machine =
    if leaves machine.present.base machine.present.memory addr n then
    refusal_reply (refusal_text Range) (By Range) machine
    else done_reply (hex_line_text (part machine.present.memory addr n)) machine

-- what a look shows
abbrev pub look_text : Look → View → List ℕ
look_text InterruptLine machine =
    let latches = machine.present.latches in
    bit_text (not (bit_and (causes latches) (mask latches) == 0))
look_text Registers machine = registers_text machine.present
look_text Wire machine = wire_text machine.present.wire

-- to a look that one word asks for
abbrev pub look_reply : Look → View → Reply
look_reply what machine = done_reply (look_text what machine) machine

-- to steps back: as many are taken as can be, at most so many
abbrev pub back_by_reply : ℕ → View → Reply
back_by_reply most machine =
    done_reply (back_text (min most (length machine.past))) (after_backs most machine)

-- to a command, by where memory was refused
abbrev pub reply : Option RefusedAt → Command → View → Reply
reply memory (event e) machine = call_reply (event_call memory e machine) machine
reply memory (command.peek addr n) machine = peek_reply addr n machine
reply memory (command.look what) machine = look_reply what machine
reply memory command.back machine = call_reply (back_call machine.past) machine
reply memory (command.back_by most) machine = back_by_reply most machine

-- ---- memory

-- the commands that take memory
abbrev pub command_takes_memory : Command → Bool
command_takes_memory (event e) = takes_memory e
command_takes_memory _ = false

-- memory is refused to a command only before its event, which nothing else refuses and which drops no frame
abbrev pub IsAllowedTo : Option RefusedAt → Command → View → Type 0
IsAllowedTo None command machine = Unit {0}
IsAllowedTo (Some before) (event e) machine = IsTrue (takes_memory e) × IsTrue (needs_memory (step machine.present e))
IsAllowedTo (Some refused) command machine = ⊥

-- ---- a line that sets the plan

abbrev pub plan_reply : Option RefusedAt → List ℕ
plan_reply None = done_text
plan_reply (Some refused) = refusal_text Memory

abbrev pub plan_outcome : Option RefusedAt → Outcome
plan_outcome None = outcome.Done
plan_outcome (Some refused) = outcome.Refused (By Memory)

-- a plan that finds no memory leaves the one before it
abbrev pub after_plan : Option RefusedAt → List (List Turn) → Session → Session
after_plan None plan session = record session { plan = Some plan }
after_plan (Some refused) plan session = session

abbrev pub MayRefusePlanAt : Option RefusedAt → Type 0
MayRefusePlanAt (Some (within did calls)) = ⊥
MayRefusePlanAt _ = Unit {0}

-- ---- what a line says, by where memory was refused to it

-- what it prints, where it has this number
abbrev pub line_text : ℕ → Option RefusedAt → ParsedLine → Session → List ℕ
line_text number memory silent session = []
line_text number memory bad session = bad_line_text number
line_text number memory (says command) session = (reply memory command session.machine).text
line_text number memory (asks request) session = asked_text (named_of memory) request session
line_text number memory (plans plan) session = plan_reply memory

abbrev pub line_outcome : Option RefusedAt → ParsedLine → Session → Outcome
line_outcome memory silent session = outcome.Silent
line_outcome memory bad session = outcome.Bad
line_outcome memory (says command) session = (reply memory command session.machine).outcome
line_outcome memory (asks request) session = asked_outcome (named_of memory) request session
line_outcome memory (plans plan) session = plan_outcome memory

abbrev pub after_line : Option RefusedAt → ParsedLine → Session → Session
after_line memory (says command) session = record session { machine = (reply memory command session.machine).machine }
after_line memory (asks request) session = after_asked (named_of memory) request session
after_line memory (plans plan) session = after_plan memory plan session
after_line memory _ session = session

-- the calls that it makes
abbrev pub line_calls : Option RefusedAt → ParsedLine → Session → List Call
line_calls memory (says command) session = calls_of memory command session.machine
line_calls memory (asks request) session = asked_calls memory request session
line_calls memory _ session = []

abbrev pub line_takes_memory : ParsedLine → Bool
line_takes_memory (says command) = command_takes_memory command
line_takes_memory (asks request) = true
line_takes_memory (plans plan) = true
line_takes_memory _ = false

-- memory is refused only to what takes memory and is refused for nothing else
abbrev pub IsAllowed : Option RefusedAt → ParsedLine → Session → Type 0
IsAllowed memory (says command) session = IsAllowedTo memory command session.machine
IsAllowed memory (asks request) session = MayBeRefusedAt memory request session
IsAllowed memory (plans plan) session = MayRefusePlanAt memory
IsAllowed None _ session = Unit {0}
IsAllowed (Some refused) _ session = ⊥

-- ---- what a call does

-- the reply was printed, and its machine is left
pub record Gives (r : Reply) (now : View) (old new : Option (List ℕ)) (result : Result Outcome WriteFailed)
    : Type 0 where
  pub prints : Prints r.text r.outcome old new result
  pub machine : now ≡ r.machine

-- what the command says was done, and its text printed
pub record Obeys (command : Command) (first now : View) (old new : Option (List ℕ))
    (result : Result Outcome WriteFailed) : Type 0 where
  pub memory : Option RefusedAt
  pub allowed : IsAllowedTo memory command first
  pub gives : Gives (reply memory command first) now old new result

-- what the line of this number says was done, and its text printed
pub record Performs (number : ℕ) (parsed : ParsedLine) (first now : Session) (old new : Option (List ℕ))
    (result : Result Outcome WriteFailed) : Type 0 where
  pub memory : Option RefusedAt
  pub allowed : IsAllowed memory parsed first
  pub prints : Prints (line_text number memory parsed first) (line_outcome memory parsed first) old new result
  pub session : now ≡ after_line memory parsed first

-- the line was played; or memory was refused for the octets that it brings, and nothing was done and nothing written
abbrev pub Plays : {E : Type 0} → ℕ → ParsedLine → Session → Session → Option (List ℕ) → Option (List ℕ)
    → Result (Result Outcome WriteFailed) E → Type 0
Plays number parsed first now old new (Ok replied) = Performs number parsed first now old new replied
Plays number parsed first now old new (Err refused) = IsTrue (brings_octets parsed) × (now ≡ first) × (new ≡ old)
