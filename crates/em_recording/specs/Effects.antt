-- What the parts of an event's record say of it. So many steps back lead to just before the event.
use Rattle.std.specs.Prelude.{◌≡◌, ℕ, Bool, false, List, map, Option, Some, None, MatchOption}
use Rattle.std.specs.Iterator.{Drains}
use Rattle.em_journal.specs.View.{View}
use Rattle.em_watch.specs.Difference.{IsDifference, LeavesAsItIs}
use Rattle.em_watch.specs.MemorySearch.{GivesOctets}
use Rattle.em_watch.specs.RegisterSearch.{GivesRegister}
use Rattle.em_watch.specs.declared.difference.Difference.{Difference}
use Rattle.em_watch.specs.declared.octets.MemoryChange.{MemoryChange}
use Rattle.em_watch.specs.declared.registers.RegisterChange.{RegisterChange}
use Rattle.em_watch.specs.declared.watch.Watch.{Watch}
use Rattle.em_watch.specs.declared.watch.Sight.{Sight}
use Rattle.em_watch.specs.declared.watch.Sight.TheVariants as sight
use Rattle.em_recording.specs.declared.recorded.Step.{Step}
use Rattle.em_recording.specs.declared.recorded.RegisterStep.{RegisterStep}

-- ---- what is seen, as a number or a bit
abbrev pub value_in : Sight → ℕ
value_in (sight.Value value) = value
value_in _ = 0

abbrev pub count_in : Sight → ℕ
count_in (sight.Count count) = count
count_in _ = 0

abbrev pub bit_in : Sight → Bool
bit_in (sight.Link up) = up
bit_in (sight.Line asserted) = asserted
bit_in _ = false

-- ---- the steps of what changed
abbrev pub register_step : RegisterChange → RegisterStep
register_step change = record {
  reg = change.reg;
  before = value_in change.difference.before;
  after = value_in change.difference.after;
}

-- what an event did to a watched thing
abbrev pub Does : Watch → View → ℕ → Option Difference → Type 0
Does w v back did = MatchOption did (LeavesAsItIs w v back) (IsDifference w v back)

abbrev pub step_of : {T : Type 0} → (Sight → T) → Option Difference → Option (Step T)
step_of read None = None
step_of read (Some d) = Some (record { before = read d.before; after = read d.after })

-- ---- of registers and octets
-- the steps of all registers that the event changed, by offset
pub record AreRegisterSteps (v : View) (back : ℕ) (steps : List RegisterStep) : Type 0 where
  pub changes : List RegisterChange
  pub all : Drains GivesRegister (record { view = v; back = back; offset = 0 }) changes
  pub each : steps ≡ map register_step changes

-- the steps of all octets that it changed, by address
abbrev pub AreOctetSteps : View → ℕ → List MemoryChange → Type 0
AreOctetSteps v back steps = Drains GivesOctets (record { view = v; back = back; addr = 0 }) steps
