-- Engines that run by themselves.
use Rattle.std.specs.Prelude.{◌≡◌, ℕ, ◌+◌, ◌==◌, ◌||◌, nat_lt, Bool, true, false, if◌then◌else◌}
use Rattle.std.specs.Prelude.{List, codes, insert, length, Option, Some, None}
use Rattle.em_line.specs.Command.{Command, event}
use Rattle.em_step.specs.Event.{receives, transmits}
use Rattle.em_tape.specs.Texts.{texts}
use Rattle.em_step.specs.State.{State}
use Rattle.em_script.specs.declared.outcome.Outcome.{Outcome}
use Rattle.em_script.specs.declared.outcome.Outcome.TheVariants.{Refused}
use Rattle.em_tape.specs.Tape.{Tape, event_of}
use Rattle.em_prompt.specs.declared.typed.Side.{Side}
use Rattle.em_prompt.specs.declared.typed.Side.TheVariants.{Receive, Transmit}
use Rattle.em_reasons.specs.RxIdle.{rx_idle}
use Rattle.em_reasons.specs.TxIdle.{tx_idle}
use Rattle.em_debugger.specs.declared.debugger.Debugger.{Debugger}
use Rattle.em_debugger.specs.declared.performing.Performed.{Performed}
use Rattle.em_debugger.specs.Reading.{command_said}
use Rattle.em_debugger.specs.Told.{moved}

-- whether engines run
abbrev pub engines_are : Bool → List ℕ
engines_are true = codes "engines run by themselves\n"
engines_are false = codes "engines stand still\n"

-- how many steps they may make
abbrev pub steps_of : Bool → ℕ
steps_of true = 0xFFFF_FFFF
steps_of false = 0

-- ---- which engine makes a step

-- the transmit engine, where its step is not idle
abbrev pub sending_by : {T : Type 0} → Option T → Option Side
sending_by None = Some Transmit
sending_by (Some why) = None

abbrev pub sending : State → Option Side
sending s = sending_by (tx_idle s)

-- the receive engine, where its step is not idle, or else the other
abbrev pub running_by : {T : Type 0} → Option T → State → Option Side
running_by None s = Some Receive
running_by (Some why) s = sending s

abbrev pub running : State → Option Side
running s = running_by (rx_idle s) s

-- the engine whose step a command is
abbrev pub step_in : Option Command → Option Side
step_in (Some (event receives)) = Some Receive
step_in (Some (event transmits)) = Some Transmit
step_in _ = None

-- the engine whose step a line is
abbrev pub step_of : ℕ → Tape → Option Side
step_of line tape = step_in (command_said line tape)

abbrev pub step_line : Side → List ℕ
step_line Receive = codes "rx"
step_line Transmit = codes "tx"

-- behind a refused step of the receive engine the other goes on; behind its own refused step, and behind another line that
-- was refused, none does
abbrev pub behind_refused : State → Option Side → Option Side
behind_refused s (Some Receive) = sending s
behind_refused s _ = None

-- behind an event both go on; behind the transmit engine's own step, it alone
abbrev pub behind_step : State → Option Side → Option Side
behind_step s (Some Transmit) = sending s
behind_step s _ = running s

abbrev pub is_refused : Outcome → Bool
is_refused (Refused why) = true
is_refused _ = false

-- behind a line that was performed, before which this event was the newest: none where engines stand still, or lines that lie
-- ahead were performed already, or the line did no event
abbrev pub engine_behind : ℕ → Performed → Debugger → Option Side
engine_behind before p d =
    if d.engines == 0 || nat_lt d.tape.whole (length d.tape.did) then None else
    if is_refused p.outcome then behind_refused d.tape.session.machine.present (step_of p.line d.tape) else
    if nat_lt before (event_of d.tape) then behind_step d.tape.session.machine.present (step_of p.line d.tape)
    else None

-- ---- a step is a line

-- the step stands right behind the lines that stand whole, and one less is left; all else is as it was
pub record PutsStep (side : Side) (old new : Debugger) : Type 0 where
  pub tape : new.tape ≡ record old.tape { lines = insert old.tape.lines old.tape.whole (step_line side) }
  pub engines : new.engines + 1 ≡ old.engines
  pub wanted : texts new.wanted.answers.items ≡ moved old.tape.whole (texts old.wanted.answers.items)
  pub marks : texts new.marks.answers.items ≡ moved old.tape.whole (texts old.marks.answers.items)
  pub rest : new ≡ record old { tape = new.tape; engines = new.engines; wanted = new.wanted; marks = new.marks }

-- memory was refused to that: all is as it was, and so is what stands beside the lines
pub record PutsNone (old new : Debugger) : Type 0 where
  pub rest : new ≡ record old { wanted = new.wanted; marks = new.marks }
  pub wanted : texts new.wanted.answers.items ≡ texts old.wanted.answers.items
  pub marks : texts new.marks.answers.items ≡ texts old.marks.answers.items

abbrev pub EngagesBy : Option Side → Debugger → Debugger → Type 0
EngagesBy None old new = new ≡ old
EngagesBy (Some side) old new = PutsStep side old new

abbrev pub Engages : ℕ → Performed → Debugger → Debugger → Type 0
Engages before p old new = EngagesBy (engine_behind before p old) old new
