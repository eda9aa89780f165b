-- What a machine shows: where it is, and what it can go back to.
use Rattle.std.specs.Prelude.{◌≡◌, ℕ, ◌-◌, nat_le, if◌then◌else◌, zero, suc, List, [], ◌∷◌, length, map, take, drop, refl}
use Rattle.std.specs.Prelude.{Some, slice_get}
use Rattle.std.specs.Coded.{Coded, code_by, coded×, coded_list, coded_ℕ}
use Rattle.em_step.specs.State.{State, state_code, without_frames}

-- the lists have the newest first, and each cost is that of the event that led away from the state beside it
pub record View : Type 0 where
  pub budget : ℕ
  -- the state that the adapter shows
  pub present : State
  -- the states that steps back lead to
  pub past : List State
  -- what the journal counts for each of those steps, in octets of cost
  pub costs : List ℕ

abbrev pub view_code : Coded View
view_code =
    code_by (ℕ × (State × (List State × List ℕ)))
    (coded× coded_ℕ (coded× state_code (coded× (coded_list state_code) (coded_list coded_ℕ))))
    (λ v. (v.budget, (v.present, (v.past, v.costs))))
    (λ p. record { budget = p.0; present = p.1.0; past = p.1.1.0; costs = p.1.1.1 }) (λ _. refl)

-- a machine that has performed nothing
abbrev pub opening : ℕ → State → View
opening budget s = record { budget = budget; present = s; past = []; costs = [] }

-- the present state and those before it
abbrev pub states : View → List State
states v = v.present ∷ v.past

-- memory begins at a base, and ends there
pub record HasMemoryOf (base end : ℕ) (s : State) : Type 0 where
  pub begins : s.base ≡ base
  pub ends : length s.memory ≡ end

-- so it does in each of them
abbrev pub HaveMemoryOf : ℕ → ℕ → View → Type 0
HaveMemoryOf base end v = (k : ℕ) (s : State) → slice_get (states v) k ≡ Some s → HasMemoryOf base end s

-- how many costs, from the newest on, the budget holds
abbrev pub reach : ℕ → List ℕ → ℕ
reach budget [] = 0
reach budget (c ∷ costs) = if nat_le c budget then suc (reach (budget - c) costs) else 0

-- the costs without the oldest, which the budget does not hold
abbrev pub costs_within : ℕ → List ℕ → List ℕ
costs_within budget costs = take (reach budget costs) costs

-- ---- frames whose octets are let go

-- the oldest of a state and those before it
abbrev pub oldest : State → List State → State
oldest s [] = s
oldest s (t ∷ older) = oldest t older

-- how many frames were sent in the oldest state that steps back lead to
abbrev pub sent_before : View → ℕ
sent_before v = length (oldest v.present v.past).wire

-- in each state the first k frames are without their octets
abbrev pub view_without : ℕ → View → View
view_without k v = record v { present = without_frames k v.present; past = map (without_frames k) v.past }

-- ---- what events and steps back make of it

-- after an event of the cost that led to s
abbrev pub after_event : View → State → ℕ → View
after_event v s cost = record v {
  present = s;
  past = take (reach v.budget (cost ∷ v.costs)) (states v);
  costs = costs_within v.budget (cost ∷ v.costs);
}

-- after a step back to the newest of these states, where there is one
abbrev pub back_to : List State → View → View
back_to [] v = v
back_to (s ∷ older) v = record v { present = s; past = older; costs = drop 1 v.costs }

-- after a step back: the newest state of the past is the present one
abbrev pub after_back : View → View
after_back v = back_to v.past v

-- after n steps back, or as many as there are
abbrev pub after_backs : ℕ → View → View
after_backs zero v = v
after_backs (suc n) v = after_backs n (after_back v)
