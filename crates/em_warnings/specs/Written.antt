-- Whether the driver wrote a descriptor since the adapter set DD in it, by what the journal holds.
use Rattle.std.specs.Prelude.{◌≡◌, ℕ, ◌==◌, not, true, false, find, min, Bool, Option, Some, option_map, length, slice_get}
use Rattle.std.specs.Prelude.{slice_index}
use Rattle.std.specs.Option.{option_map_or}
use Rattle.std.specs.List.{range_with_len}
use Rattle.std.specs.Str.{bytes_eq}
use Rattle.em_step.specs.State.{State}
use Rattle.em_journal.specs.View.{View, states}
use Rattle.em_watch.specs.Watching.{octets_sight, sight}
use Rattle.em_watch.specs.declared.watch.Watch.{Watch}
use Rattle.em_watch.specs.declared.watch.Sight.{Sight}
use Rattle.em_watch.specs.declared.watch.Sight.TheVariants.{Nothing, Octets}

-- what is seen of the 16 octets of the descriptor at an address, in a state
abbrev pub seen_in : ℕ → State → Sight
seen_in at s = octets_sight s.base s.memory at 16

-- so many steps back, if steps back lead so far
abbrev pub seen_at : View → ℕ → ℕ → Option Sight
seen_at v at back = option_map (seen_in at) (slice_get (states v) back)

-- it is what is watched
abbrev pub Watches : ℕ → Watch → Type 0
Watches at watch = (s : State) → sight watch s ≡ seen_in at s

-- the same is seen of it: the same octets, or none in both, where it leaves memory
abbrev pub is_same : Option Sight → Option Sight → Bool
is_same (Some (Octets one)) (Some (Octets other)) = bytes_eq one other
is_same (Some Nothing) (Some Nothing) = true
is_same _ _ = false

-- it was another so many steps back than it is now
abbrev pub is_other : View → ℕ → ℕ → Bool
is_other v at back = not (is_same (seen_at v at back) (seen_at v at 0))

-- how many steps back lead to where it was another, of up to 64
abbrev pub changed_back : View → ℕ → Option ℕ
changed_back v at = find (is_other v at) (range_with_len 1 (min 64 (length v.past)))

-- its status is octet 12
abbrev pub status_of : Option Sight → ℕ
status_of (Some (Octets octets)) = slice_index octets 12
status_of _ = 0

-- its status was the same so many steps back
abbrev pub status_stays : View → ℕ → ℕ → Bool
status_stays v at back = status_of (seen_at v at back) == status_of (seen_at v at 0)

-- its newest change, in the last 64 events, left the status as it is
abbrev pub is_rewritten : View → ℕ → Bool
is_rewritten v at = option_map_or (status_stays v at) (changed_back v at) false
