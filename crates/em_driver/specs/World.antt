-- A bus, with what other actors do on it before each access of a driver.
use Rattle.std.specs.Prelude.{◌≡◌, ◌⊎◌, ℕ, ◌+◌, Bool, true, false, IsTrue, List, [], ◌∷◌, ◌++◌, refl}
use Rattle.std.specs.Prelude.{Result, Ok, Err, Option, Some, None, All}
use Rattle.std.specs.Coded.{Coded, code_by, coded×, coded_list, coded_option, coded_ℕ, coded_bool}
use Rattle.em_mem.specs.Memory.{LiesIn, leaves, part}
use Rattle.em_step.specs.Cost.{cost}
use Rattle.em_step.specs.Event.{Event}
use Rattle.em_step.specs.State.{State}
use Rattle.em_step.specs.Step.{step, Refuses}
use Rattle.em_step.specs.declared.event.Answer.{Answer}
use Rattle.em_step.specs.declared.refusal.Refusal.{Refusal}
use Rattle.em_step.specs.declared.refusal.Refusal.TheVariants.{Memory}
use Rattle.em_journal.specs.History.{performs, Does}
use Rattle.em_journal.specs.View.{View, view_code, after_event}
use Rattle.em_turn.specs.Turn.{event_of, stored_in, turn_code}
use Rattle.em_turn.specs.declared.turn.Turn.{Turn}
use Rattle.em_driver.specs.Layout.{layout_code}
use Rattle.em_driver.specs.Others.{IsOthers}
use Rattle.em_driver.specs.declared.layout.Layout.{Layout}

pub record World : Type 0 where
  -- the machine, with what it can go back to
  pub machine : View
  -- the frames that the turns and other events so far stored, as they arrived
  pub stored : List (List ℕ)
  -- the turns to come: a list of them before each access
  pub plan : List (List Turn)
  -- Who acts beside the plan: nobody, or whoever leaves alone the registers and the memory of a driver with this
  -- layout, as an interrupt routine does.
  pub spared : Option Layout
  -- how many turns and other events were performed, and how many turns refused
  pub performed : ℕ
  pub refused : ℕ
  -- whether memory was refused to a turn
  pub starved : Bool
  -- whether memory can be refused to the bus; that it can, a bus says only by such a refusal
  pub scarce : Bool

abbrev pub world_code : Coded World
world_code =
    code_by
    (View × (List (List ℕ) × (List (List Turn) × (Option Layout × (ℕ × (ℕ × (Bool × Bool)))))))
    (coded× view_code (coded× (coded_list (coded_list coded_ℕ)) (coded× (coded_list (coded_list turn_code))
    (coded× (coded_option layout_code) (coded× coded_ℕ (coded× coded_ℕ (coded× coded_bool coded_bool)))))))
    (λ w. (w.machine, (w.stored, (w.plan, (w.spared, (w.performed, (w.refused, (w.starved, w.scarce))))))))
    (λ p. record {
      machine = p.0;
      stored = p.1.0;
      plan = p.1.1.0;
      spared = p.1.1.1.0;
      performed = p.1.1.1.1.0;
      refused = p.1.1.1.1.1.0;
      starved = p.1.1.1.1.1.1.0;
      scarce = p.1.1.1.1.1.1.1;
    })
    (λ _. refl)

-- a machine as a bus on which nobody else acts; memory can always be refused to it
abbrev pub quiet : View → World
quiet machine = record {
  machine = machine;
  stored = [];
  plan = [];
  spared = None;
  performed = 0;
  refused = 0;
  starved = false;
  scarce = true;
}

abbrev pub present : World → State
present w = w.machine.present

-- ---- the turns of the others

-- an event of another actor that is performed
abbrev pub after_theirs : World → Event → Answer × State → World
after_theirs w e r = record w {
  machine = after_event w.machine r.1 (cost w.machine.present e);
  stored = w.stored ++ stored_in e r.0;
  performed = w.performed + 1;
}

-- a turn that is performed, or skipped
abbrev pub after_outcome : World → Turn → Result (Answer × State) Refusal → World
after_outcome w t (Ok r) = after_theirs w (event_of t) r
after_outcome w t (Err refusal) = record w { refused = w.refused + 1 }

-- by the table
abbrev pub after_turn : World → Turn → World
after_turn w t = after_outcome w t (step w.machine.present (event_of t))

-- one after the other
abbrev pub after_turns : World → List Turn → World
after_turns w [] = w
after_turns w (t ∷ turns) = after_turns (after_turn w t) turns

-- the turns before the next access, and the plan behind them
abbrev pub first : List (List Turn) → List Turn
first [] = []
first (turns ∷ plan) = turns

abbrev pub rest : List (List Turn) → List (List Turn)
rest [] = []
rest (turns ∷ plan) = plan

-- the turn behind these found no memory
pub record Starves (w : World) (turns : List Turn) : Type 0 where
  pub wanting : Turn
  pub dropped : List Turn
  pub is : first w.plan ≡ turns ++ wanting ∷ dropped
  pub refused : Refuses (after_turns w turns).machine.present (event_of wanting) Memory

-- The plan's first list is taken whole. Where memory is refused to a turn, it and all that is behind it is dropped.
abbrev pub IsTaken : World → List Turn → World → Type 0
IsTaken w turns v =
    ((turns ≡ first w.plan) × (v.plan ≡ rest w.plan) × (v.starved ≡ w.starved))
    ⊎ (Starves w turns × (v.plan ≡ []) × (v.starved ≡ true))

-- ---- the events of those who act beside the plan

-- one that is performed, or changes nothing
abbrev pub after_tried : World → Event → Result (Answer × State) Refusal → World
after_tried w e (Ok r) = after_theirs w e r
after_tried w e (Err refusal) = w

abbrev pub after_other : World → Event → World
after_other w e = after_tried w e (step w.machine.present e)

-- one after the other
abbrev pub after_others : World → List Event → World
after_others w [] = w
after_others w (e ∷ events) = after_others (after_other w e) events

-- they spare what the world says: where it says nothing, there are none
abbrev pub Spare : Option Layout → List Event → Type 0
Spare None events = events ≡ []
Spare (Some l) events = All (IsOthers l) events

-- The others act: they take their turns, and then whoever acts beside the plan does whatever spares the driver.
pub record Passes (w v : World) : Type 0 where
  pub turns : List Turn
  pub taken : IsTaken w turns v
  pub events : List Event
  pub spare : Spare w.spared events
  pub is : v ≡ record (after_others (after_turns w turns) events) { plan = v.plan; starved = v.starved }

-- who acts beside the plan spares a driver with this layout
abbrev pub IsSpared : Layout → Option Layout → Type 0
IsSpared l None = Unit {0}
IsSpared l (Some k) = k ≡ l

-- ---- the accesses of the driver, each after what the others do

-- an event, with its answer
pub record Accesses (w : World) (e : Event) (answer : Answer) (v : World) : Type 0 where
  pub mid : World
  pub passes : Passes w mid
  pub does : Does mid.machine (performs e answer) v.machine
  pub is : v ≡ record mid { machine = v.machine }

-- An event that the bus was asked for, and refused. That memory can be refused to a bus is known from such a refusal
-- alone: so who answers that it was must have asked.
pub record IsRefused (w : World) (e : Event) (refusal : Refusal) (v : World) : Type 0 where
  pub passes : Passes w v
  pub refuses : Refuses v.machine.present e refusal
  pub asked : refusal ≡ Memory → v.scarce ≡ true

-- octets of memory, which is no event
pub record Peeks (w : World) (addr len : ℕ) (octets : List ℕ) (v : World) : Type 0 where
  pub passes : Passes w v
  pub held : LiesIn v.machine.present.base v.machine.present.memory addr len
  pub gives : octets ≡ part v.machine.present.memory addr len

-- octets that leave memory
pub record PeeksPast (w : World) (addr len : ℕ) (v : World) : Type 0 where
  pub passes : Passes w v
  pub past : IsTrue (leaves v.machine.present.base v.machine.present.memory addr len)
