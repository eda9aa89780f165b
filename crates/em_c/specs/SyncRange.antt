-- A range of guest memory is made what it is in the caller's memory.
use Rattle.std.specs.Prelude.{◌≡◌, ◌≤◌, ◌<◌, ◌⊎◌, ℕ, IsTrue, List, length, Option, Some, None, Result, Err}
use Rattle.em_mem.specs.Memory.{leaves}
use Rattle.em_c.specs.Refused.{number_of, Shows}
use Rattle.em_c.specs.Sync.{Rewrites}
use Rattle.em_c.specs.Tagged.{Holds, present_of}
use Rattle.em_c.specs.declared.refused.Refused.{Refused}
use Rattle.em_c.specs.declared.refused.Refused.TheVariants.{Length, NoMachine, Range}
use Rattle.em_c.specs.declared.tagged.Tagged.{Tagged}

-- octets that leave memory, or else too many for one write: nothing is done
abbrev pub IsNoRange : Tagged → ℕ → List ℕ → Refused → Type 0
IsNoRange t at new Range = IsTrue (leaves (present_of t).base (present_of t).memory at (length new))
IsNoRange t at new Length = Holds t at (length new) × (16384 < length new)
IsNoRange t at new refused = ⊥

-- by one write from the first octet that differs to the last, or by none
pub record SyncsHeld (t : Tagged) (at : ℕ) (new : List ℕ) (outcome : Result ℕ Refused) (u : Tagged) : Type 0 where
  pub most : length new ≤ 16384
  pub held : Holds t at (length new)
  pub rewrites : Rewrites t at new outcome u

abbrev pub SyncsRange : Tagged → ℕ → List ℕ → Result ℕ Refused → Tagged → Type 0
SyncsRange t at new outcome u =
    SyncsHeld t at new outcome u
    ⊎ ((refused : Refused) × IsNoRange t at new refused × (outcome ≡ Err refused) × (u ≡ t))

-- the call, which tells how many writes were made
abbrev pub SyncsRangeIn : Option Tagged → ℕ → List ℕ → ℕ → ℕ → ℕ → Option Tagged → Type 0
SyncsRangeIn None at new old code count after = (code ≡ number_of NoMachine) × (count ≡ old) × (after ≡ None)
SyncsRangeIn (Some t) at new old code count after =
    (u : Tagged) × (outcome : Result ℕ Refused) × SyncsRange t at new outcome u × Shows outcome old code count
    × (after ≡ Some u)
