-- What another actor does between two accesses of a driver.
use Rattle.std.specs.Prelude.{◌≡◌, ℕ, ◌+◌, Bool, true, false, List, [], ◌∷◌, length, Option, Some, None, refl}
use Rattle.std.specs.Coded.{Coded, code_by, coded×, coded_list, coded_ℕ, coded_bool, coded_option}
use Rattle.em_step.specs.Event.{Event, arrives, receives, transmits}
use Rattle.em_step.specs.declared.event.Answer.{Answer}
use Rattle.em_step.specs.declared.event.Answer.TheVariants.{Stored}
use Rattle.em_turn.specs.declared.turn.Turn.{Turn}
use Rattle.em_turn.specs.declared.turn.Turn.TheVariants.{Arrive, RxStep, TxStep}

-- the event that it is
abbrev pub event_of : Turn → Event
event_of (Arrive f) = arrives f
event_of RxStep = receives
event_of TxStep = transmits

-- the frames that an event stored, by its answer
abbrev pub stored_in : Event → Answer → List (List ℕ)
stored_in (arrives f) Stored = f ∷ []
stored_in e answer = []

-- and those that a turn stored
abbrev pub stored_by : Turn → Answer → List (List ℕ)
stored_by t answer = stored_in (event_of t) answer

-- ---- how many there are

abbrev pub is_arrival : Turn → ℕ
is_arrival (Arrive f) = 1
is_arrival RxStep = 0
is_arrival TxStep = 0

-- the arrivals of a list
abbrev pub arrivals : List Turn → ℕ
arrivals [] = 0
arrivals (t ∷ turns) = is_arrival t + arrivals turns

-- the arrivals of a plan, and its turns
abbrev pub plan_arrivals : List (List Turn) → ℕ
plan_arrivals [] = 0
plan_arrivals (turns ∷ plan) = arrivals turns + plan_arrivals plan

abbrev pub plan_turns : List (List Turn) → ℕ
plan_turns [] = 0
plan_turns (turns ∷ plan) = length turns + plan_turns plan

-- ---- as it is kept

abbrev pub turn_parts : Turn → Option (List ℕ) × Bool
turn_parts (Arrive f) = (Some f, false)
turn_parts RxStep = (None, false)
turn_parts TxStep = (None, true)

abbrev pub turn_from : Option (List ℕ) × Bool → Turn
turn_from (Some f, second) = Arrive f
turn_from (None, false) = RxStep
turn_from (None, true) = TxStep

abbrev pub same_turn : (t : Turn) → turn_from (turn_parts t) ≡ t
same_turn (Arrive f) = refl
same_turn RxStep = refl
same_turn TxStep = refl

abbrev pub turn_code : Coded Turn
turn_code =
    code_by (Option (List ℕ) × Bool) (coded× (coded_option (coded_list coded_ℕ)) coded_bool)
    turn_parts turn_from same_turn
