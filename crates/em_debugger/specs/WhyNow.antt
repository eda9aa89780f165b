-- Why a step would do nothing, and why the interrupt line is as it is: as things are at the place.
use Rattle.std.specs.Prelude.{◌≡◌, ℕ, ◌==◌, bit_and, if◌then◌else◌, List, [], ◌∷◌, ◌++◌, codes, Option, Some, None}
use Rattle.std.specs.Prelude.{Result, Ok, Err}
use Rattle.em_reasons.specs.Explain.{why_text}
use Rattle.em_reasons.specs.LookText.{value_seen}
use Rattle.em_reasons.specs.Undone.{undone_by}
use Rattle.em_reasons.specs.Why.{IsWhyOf, why_looks}
use Rattle.em_reasons.specs.declared.why.Why.{Why}
use Rattle.em_reasons.specs.declared.why.Why.TheVariants.{Refused}
use Rattle.em_prompt.specs.declared.typed.Side.{Side}
use Rattle.em_prompt.specs.declared.typed.Side.TheVariants.{Receive, Transmit}
use Rattle.em_reasons.specs.declared.look.Look.{Look}
use Rattle.em_reasons.specs.declared.look.Look.TheVariants.{Bits}
use Rattle.em_regs.specs.declared.reg.Reg.TheVariants.{Icr, Ims}
use Rattle.em_step.specs.Event.{Event, receives, transmits}
use Rattle.em_step.specs.State.{State}
use Rattle.em_step.specs.Step.{Refuses, step}
use Rattle.em_step.specs.declared.event.Answer.{Answer}
use Rattle.em_step.specs.declared.refusal.Refusal.{Refusal}
use Rattle.em_watch.specs.Watching.{register_sight}
use Rattle.em_debugger.specs.declared.debugger.Debugger.{Debugger}
use Rattle.em_debugger.specs.Why.{TellsLooks}

-- ---- a step of an engine
abbrev pub step_of : Side → Event
step_of Receive = receives
step_of Transmit = transmits

abbrev pub side_name : Side → List ℕ
side_name Receive = codes "rx"
side_name Transmit = codes "tx"

-- how it would do nothing
abbrev pub undone_text : Why → List ℕ
undone_text (Refused reason) = codes " would be refused: "
undone_text _ = codes " would be idle: "

-- it would do nothing for such a reason, or it would do something
abbrev pub would_text : Option Why → List ℕ
would_text None = codes " would be neither idle nor refused\n"
would_text (Some why) = undone_text why ++ (why_text (Some why) ++ codes "\n")

abbrev pub step_text : Side → Option Why → List ℕ
step_text side why = side_name side ++ would_text why

-- an event would come to this: it is answered so by the table, or refused so by the table or for want of memory
abbrev pub WouldCome : State → Event → Result Answer Refusal → Type 0
WouldCome s e (Ok answer) = (t : State) × (step s e ≡ Ok (answer, t))
WouldCome s e (Err refusal) = Refuses s e refusal

-- of a step that would come to this: whether it would do nothing, why, and what the test looked at
pub record TellsTried (d : Debugger) (side : Side) (came : Result Answer Refusal) (text : List ℕ) : Type 0 where
  pub why : Option Why
  pub is : IsWhyOf d.tape.session.machine.present (Some (step_of side)) (undone_by came) why
  pub rest : List ℕ
  pub tells : TellsLooks d d.tape (why_looks why) rest
  pub said : text ≡ step_text side why ++ rest

-- what a step would come to
pub record TellsCame (d : Debugger) (side : Side) (text : List ℕ) : Type 0 where
  pub came : Result Answer Refusal
  pub comes : WouldCome d.tape.session.machine.present (step_of side) came
  pub tells : TellsTried d side came text

-- that, or that there is no memory to try it
pub data TellsWhyStep (d : Debugger) (side : Side) (text : List ℕ) : Type 0 where
  tried : TellsCame d side text → TellsWhyStep d side text
  untried : text ≡ side_name side ++ codes ": no memory to try it\n" → TellsWhyStep d side text

-- ---- the interrupt line
-- a cause is set that the mask lets through, or no cause is set, or the mask lets none of them through
abbrev pub line_text : ℕ → ℕ → List ℕ
line_text icr ims =
    if icr == 0 then codes "the interrupt line is down: no cause is set\n" else
    if bit_and icr ims == 0 then codes "the interrupt line is down: IMS lets no cause through that is set\n" else
    codes "the interrupt line is up: IMS lets a cause through that is set\n"

-- by ICR and IMS
abbrev pub line_said : State → List ℕ
line_said s = line_text (value_seen (register_sight s Icr)) (value_seen (register_sight s Ims))

-- all bits of both
abbrev pub line_looks : List Look
line_looks = Bits Icr 0xFFFF_FFFF ∷ Bits Ims 0xFFFF_FFFF ∷ []

pub record TellsWhyInterrupt (d : Debugger) (text : List ℕ) : Type 0 where
  pub rest : List ℕ
  pub tells : TellsLooks d d.tape line_looks rest
  pub said : text ≡ line_said d.tape.session.machine.present ++ rest
