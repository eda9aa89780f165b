-- Which octets of guest memory one event changed. So many steps back lead to just before it.
use Rattle.std.specs.Prelude.{◌≡◌, ◌≢◌, ℕ, ◌+◌, ◌-◌, ◌<◌, ◌≤◌, nat_lt, if◌then◌else◌, List, map, Option, Some, None}
use Rattle.std.specs.Prelude.{slice_get, slice_index}
use Rattle.em_mem.specs.Memory.{LiesIn}
use Rattle.em_step.specs.State.{State}
use Rattle.em_journal.specs.View.{View, states}
use Rattle.em_watch.specs.Difference.{IsDifference}
use Rattle.em_watch.specs.Watching.{sights}
use Rattle.em_watch.specs.declared.octets.MemoryChange.{MemoryChange}
use Rattle.em_watch.specs.declared.range.MemoryRange.{MemoryRange}
use Rattle.em_watch.specs.declared.watch.Watch.TheVariants.{Octets}
use Rattle.em_watch.specs.declared.watch.Sight.TheVariants as sight

-- the octet at an address, if memory has it
abbrev pub octet_in : State → ℕ → Option ℕ
octet_in s a = if nat_lt a s.base then None else slice_get s.memory a

-- the same so many steps back
abbrev pub octet_back : View → ℕ → ℕ → Option (Option ℕ)
octet_back v k a = slice_get (map (λ (s : State). octet_in s a) (states v)) k

-- the event changed the octet at an address, or left it
abbrev pub ChangesOctet : View → ℕ → ℕ → Type 0
ChangesOctet v back a = octet_back v back a ≢ octet_back v (back - 1) a

abbrev pub LeavesOctet : View → ℕ → ℕ → Type 0
LeavesOctet v back a = octet_back v back a ≡ octet_back v (back - 1) a

-- it left those from an address on below another
abbrev pub LeavesOctets : View → ℕ → ℕ → ℕ → Type 0
LeavesOctets v back from below = (a : ℕ) → from ≤ a → a < below → LeavesOctet v back a

-- it left all from an address on
abbrev pub LeavesRest : View → ℕ → ℕ → Type 0
LeavesRest v back from = (a : ℕ) → from ≤ a → LeavesOctet v back a

-- the event made of these octets those, and changed the first of them and the last
pub record IsMemoryChange (v : View) (back : ℕ) (change : MemoryChange) : Type 0 where
  pub octets : IsDifference (Octets change.range) v back
      (record { before = sight.Octets change.before; after = sight.Octets change.after })
  pub first : ChangesOctet v back change.range.addr
  pub last : ChangesOctet v back (change.range.addr + change.range.len - 1)

-- ---- of a range
-- memory has it in each state
abbrev pub HasRange : View → MemoryRange → Type 0
HasRange v range = (k : ℕ) (s : State) → slice_get (states v) k ≡ Some s
    → LiesIn s.base s.memory range.addr range.len

-- these are its octets so many steps back, with zeros behind them
pub record ShowsOctets (v : View) (k : ℕ) (range : MemoryRange) (octets : List ℕ) : Type 0 where
  pub seen : slice_get (sights (Octets range) v) k ≡ Some (sight.Octets octets)
  pub each : (i : ℕ) → i < range.len → octet_back v k (range.addr + i) ≡ Some (Some (slice_index octets i))
