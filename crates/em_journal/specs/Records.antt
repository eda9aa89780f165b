-- Records from the newest on, each for the cells that the newer ones leave.
use Rattle.std.specs.Prelude.{◌≡◌, ◌≤◌, ◌<◌, ◌+◌, ◌/◌, ℕ, List, [], ◌∷◌, length, sum, Option, None, Some, Vec, vec_capacity}
use Rattle.std.specs.Global.{Global}
use Rattle.circular_buffer.specs.Buffer.{Buffer}
use Rattle.em_step.specs.State.{State}
use Rattle.em_step.specs.Cells.{Cells, shows}
use Rattle.em_step.specs.Cost.{least_cost, cost_by, cost_of}
use Rattle.em_mem.specs.OldOctets.{OldOctets, given_up}
use Rattle.em_step.specs.Undo.{Fits, IsAt, Undo, held, undo, undo_of}
use Rattle.em_step.specs.declared.undo.Record.{Record}
use Rattle.em_journal.specs.Budget.{IsBudget}
use Rattle.em_journal.specs.View.{View}

-- what each of them costs, wherever its octets lie
abbrev pub costs_by : List Record → List ℕ
costs_by [] = []
costs_by (r ∷ records) = cost_by r ∷ costs_by records

-- what the records mean: behind the octets of each lie those of the next older one
abbrev pub undos_of : List Record → OldOctets → List Undo
undos_of [] o = []
undos_of (r ∷ records) o = undo_of r o ∷ undos_of records (given_up (held r) o)

-- how many octets were saved for them
abbrev pub held_by : List Record → ℕ
held_by [] = 0
held_by (r ∷ records) = held r + held_by records

-- each says where its own lie
abbrev pub AreAt : List Record → OldOctets → Type 0
AreAt [] o = Unit {0}
AreAt (r ∷ records) o = IsAt r o × AreAt records (given_up (held r) o)

-- they lie before the end of a ring that is to grow, and memory waits for one of this size
pub record WillGrow (records : List Record) (o : OldOctets) (waits : Vec ℕ Global) (size : ℕ) : Type 0 where
  pub before : o.top + held_by records < length o.octets
  pub shorter : length o.octets ≤ size
  pub memory : size ≤ vec_capacity waits

-- the ring has its whole size, or will have it
abbrev pub HasSize : List Record → OldOctets → Option (Vec ℕ Global) → ℕ → Type 0
HasSize records o None size = length o.octets ≡ size
HasSize records o (Some waits) size = WillGrow records o waits size

-- so many octets more do not go over those that are saved
abbrev pub HasRoom : OldOctets → Option (Vec ℕ Global) → ℕ → Type 0
HasRoom o None n = Unit {0}
HasRoom o (Some waits) n = n ≤ o.top

-- there is room for them, and for those of one event more; the running sum is what they cost
pub record AreSaved (records : List Record) (o : OldOctets) (waits : Option (Vec ℕ Global)) (budget used : ℕ) : Type 0
  where
    pub at : AreAt records o
    pub counted : used ≡ sum (costs_by records)
    pub held : held_by records ≤ budget
    pub size : HasSize records o waits (budget + 16_396)
    pub top : o.top < length o.octets

-- how many places there are for records: those of the ring, or of the larger one while it waits
abbrev pub places_in : ℕ → Option (Buffer Record) → ℕ
places_in capacity None = capacity
places_in capacity (Some larger) = larger.capacity

-- the states that the records lead back to
abbrev pub back_through : Cells → List Undo → List State
back_through c [] = []
back_through c (r ∷ records) = shows (undo c r) ∷ back_through (undo c r) records

-- each record fits the cells where its turn comes
abbrev pub AllFit : Cells → List Undo → Type 0
AllFit c [] = Unit {0}
AllFit c (r ∷ records) = Fits c r × AllFit (undo c r) records

-- what each of these costs
abbrev pub costs_of : List Undo → List ℕ
costs_of [] = []
costs_of (r ∷ records) = cost_of r ∷ costs_of records

-- what a machine of that budget shows over these cells and records
abbrev pub view_of : ℕ → Cells → List Undo → View
view_of budget c records = record {
  budget = budget;
  present = shows c;
  past = back_through c records;
  costs = costs_of records;
}

-- the fields of a machine belong together
pub record IsJournal (c : Cells) (records : List Undo) (capacity budget used : ℕ) : Type 0 where
  pub fit : AllFit c records
  -- the running sum is that of the records, and the budget holds it
  pub counted : used ≡ sum (costs_of records)
  pub held : used ≤ budget
  -- no record costs less, so that there is a place for each that the budget holds
  pub places : capacity ≡ budget / least_cost
  pub allowed : IsBudget budget
