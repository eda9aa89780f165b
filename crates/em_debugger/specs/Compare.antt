-- Comparing the answers of a script with those that its lines expect.
use Rattle.std.specs.Prelude.{◌≡◌, ℕ, ◌-◌, min, Bool, if◌then◌else◌, List, [], ◌++◌, length, Option, Some, None}
use Rattle.em_regs.specs.declared.reg.Reg.{Reg}
use Rattle.em_expect.specs.Difference.{register_of}
use Rattle.em_named.specs.Numbers.{end_of}
use Rattle.em_script.specs.declared.outcome.Outcome.{Outcome}
use Rattle.em_script.specs.declared.outcome.Outcome.TheVariants.{Answered}
use Rattle.em_step.specs.declared.event.Answer.TheVariants.{Value}
use Rattle.em_tape.specs.Tape.{behind}
use Rattle.em_watch.specs.declared.watch.Watch.TheVariants.{Register}
use Rattle.em_debugger.specs.declared.compare.Compared.{Compared}
use Rattle.em_debugger.specs.declared.compare.Differing.{Differing}
use Rattle.em_debugger.specs.declared.compare.Compared.TheVariants.{Agrees, Differs, Stopped}
use Rattle.em_debugger.specs.declared.debugger.Debugger.{Debugger}
use Rattle.em_debugger.specs.declared.performing.Performed.{Performed}
use Rattle.em_debugger.specs.declared.stops.Ran.{Ran}
use Rattle.em_debugger.specs.declared.stops.Ran.TheVariants as ran
use Rattle.em_debugger.specs.declared.stops.Stop.TheVariants as stop
use Rattle.em_debugger.specs.Departures.{departure_text}
use Rattle.em_debugger.specs.Performing.{ShowsPerformed}
use Rattle.em_debugger.specs.Reading.{access_said}
use Rattle.em_debugger.specs.Stops.{RanSo}
use Rattle.em_debugger.specs.Who.{TellsNewest}

-- the value that a read gave which came out so
abbrev pub value_of : Outcome → Option ℕ
value_of (Answered (Value value)) = Some value
value_of _ = None

-- a line whose answer differs, with the register that it reads and the value that it gave
abbrev pub differing : Performed → Debugger → Differing
differing p d = record {
  line = p.line;
  reg = register_of (access_said p.line d.tape);
  value = value_of p.outcome;
  performed = p;
}

-- how many steps back lead before it
abbrev pub before_line : Performed → Debugger → ℕ
before_line p d = behind (end_of (min (p.line - 1) (length d.tape.did)) d.tape.did) d.tape

-- what is known of a register's differences, if this is one of those
abbrev pub known_of : Bool → Reg → List ℕ
known_of is_known reg = if is_known then departure_text reg else []

-- and who changed it last, from so many steps back on
pub record TellsRegister (old new : Debugger) (reg : Reg) (back : ℕ) (is_known : Bool) (text : List ℕ) : Type 0 where
  pub who : List ℕ
  pub newest : TellsNewest old new (Register reg) back who
  pub told : text ≡ known_of is_known reg ++ who

abbrev pub TellsIfRead : Option Reg → Debugger → Debugger → ℕ → Bool → List ℕ → Type 0
TellsIfRead None old new back is_known text = (new ≡ old) × (text ≡ [])
TellsIfRead (Some reg) old new back is_known text = TellsRegister old new reg back is_known text

-- the line with its answer, and then that
pub record TellsParts (old new : Debugger) (p : Performed) (reg : Option Reg) (is_known : Bool) (text : List ℕ) : Type 0 where
  pub line : List ℕ
  pub shows : ShowsPerformed old p line
  pub rest : List ℕ
  pub tells : TellsIfRead reg old new (before_line p old) is_known rest
  pub told : text ≡ line ++ rest

abbrev pub TellsDiffers : Debugger → Debugger → Differing → Bool → List ℕ → Type 0
TellsDiffers old new one is_known text = TellsParts old new one.performed one.reg is_known text

abbrev pub compared : Debugger → Ran → Compared
compared d (ran.Behind p) = Differs (differing p d)
compared d (ran.Fault fault) = Stopped fault
compared d _ = Agrees

-- lines were performed up to the next difference
pub record Compares (old new : Debugger) (found : Compared) : Type 0 where
  pub lines : ℕ
  pub ended : Ran
  pub ran : RanSo stop.Differs old new lines ended
  pub is : found ≡ compared new ended
