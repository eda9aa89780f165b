-- Guest memory is made what the caller's memory is, by memory writes.
use Rattle.std.specs.Prelude.{◌≡◌, ℕ, ◌≤◌, ◌+◌, ◌-◌, ◌/◌, nat_lt, zero, suc, List, [], ◌∷◌, ◌++◌, length, take, drop}
use Rattle.std.specs.Prelude.{Option, Some, None, Result, Ok, Err, slice_get, if◌then◌else◌}
use Rattle.em_mem.specs.Memory.{page_size, part, put}
use Rattle.em_step.specs.Event.{Event, pokes}
use Rattle.em_step.specs.Step.{Refuses}
use Rattle.em_step.specs.declared.event.Answer.{Answer}
use Rattle.em_step.specs.declared.refusal.Refusal.TheVariants as event
use Rattle.em_c.specs.Difference.{same_at_head, up_to_last}
use Rattle.em_c.specs.Looks.{octets_of, size_of}
use Rattle.em_c.specs.Refused.{number, number_of}
use Rattle.em_c.specs.declared.refused.Refused.{Refused}
use Rattle.em_c.specs.declared.refused.Refused.TheVariants.{Length, Memory, NoMachine}
use Rattle.em_c.specs.declared.tagged.Tagged.{Tagged}
use Rattle.em_c.specs.Tagged.{Performs, present_of}

abbrev pub memory_of : Tagged → List ℕ
memory_of t = (present_of t).memory

-- ---- the writes

-- the new octets from the first that differs to the last, where they lie; none where none differs
abbrev pub run_writes : ℕ → List ℕ → ℕ → ℕ → List Event
run_writes at new first last =
    if nat_lt first last then pokes (at + first) (part new first (last - first)) ∷ [] else []

-- what makes octets at an address new ones: one write, or none
abbrev pub page_writes : ℕ → List ℕ → List ℕ → List Event
page_writes at old new = run_writes at new (same_at_head old new) (up_to_last old new)

-- page by page, so many of them, the first one at an address
unfoldable pub writes_from : ℕ → ℕ → List ℕ → List ℕ → List Event
writes_from zero at memory ram = []
writes_from (suc k) at memory ram =
    page_writes at (take page_size memory) (take page_size ram)
    ++ writes_from k (at + page_size) (drop page_size memory) (drop page_size ram)

-- how many pages so many octets take
abbrev pub pages : ℕ → ℕ
pages n = (n + (page_size - 1)) / page_size

-- what makes memory the caller's, from its first octet on
abbrev pub writes_of : Tagged → List ℕ → List Event
writes_of t ram = writes_from (pages (length ram)) (present_of t).base (octets_of (present_of t)) ram

-- what makes memory the caller's from an address on, within a page
abbrev pub rewrites : Tagged → ℕ → List ℕ → List Event
rewrites t at new = page_writes at (part (memory_of t) at (length new)) new

-- ---- what becomes of the machine

-- an event is performed, whatever it answers
abbrev pub PerformsOne : Event → Tagged → Tagged → Type 0
PerformsOne event t u = (answer : Answer) × Performs t event answer u

-- events are performed, one after another
abbrev pub PerformsAll : List Event → Tagged → Tagged → Type 0
PerformsAll [] t u = u ≡ t
PerformsAll (event ∷ events) t u = (m : Tagged) × PerformsOne event t m × PerformsAll events m u

-- the host has no memory for the first of them
pub record IsWanting (t : Tagged) (events : List Event) : Type 0 where
  pub first : Event
  pub is_first : slice_get events 0 ≡ Some first
  pub refuses : Refuses (present_of t) first event.Memory

-- memory is the caller's from an address on, and so many writes made it so
pub record Rewrote (t : Tagged) (at : ℕ) (new : List ℕ) (n : ℕ) (u : Tagged) : Type 0 where
  pub count : n ≡ length (rewrites t at new)
  pub few : n ≤ 1
  pub performs : PerformsAll (rewrites t at new) t u
  pub base : (present_of u).base ≡ (present_of t).base
  pub memory : memory_of u ≡ put (memory_of t) at new

-- the write is refused for want of memory, and none was made
pub record RefusesWrite (t : Tagged) (at : ℕ) (new : List ℕ) (refused : Refused) (u : Tagged) : Type 0 where
  pub only : refused ≡ Memory
  pub wanting : IsWanting t (rewrites t at new)
  pub same : u ≡ t

abbrev pub Rewrites : Tagged → ℕ → List ℕ → Result ℕ Refused → Tagged → Type 0
Rewrites t at new (Ok n) u = Rewrote t at new n u
Rewrites t at new (Err refused) u = RefusesWrite t at new refused u

-- all writes were made, and memory is the caller's; or so many were made until one was refused; or sizes differ and none
-- was made
abbrev pub Syncs : {X : Type 0} → Tagged → List ℕ → ℕ → Result X Refused → ℕ → Tagged → Type 0
Syncs t ram old (Ok x) new u =
    let writes = writes_of t ram in
    (new ≡ length writes) × PerformsAll writes t u × (octets_of (present_of u) ≡ ram)
Syncs t ram old (Err Memory) new u =
    let writes = writes_of t ram in
    (size_of (present_of t) ≡ length ram) × PerformsAll (take new writes) t u × IsWanting u (drop new writes)
Syncs t ram old (Err Length) new u = (size_of (present_of t) ≡ length ram → ⊥) × (new ≡ old) × (u ≡ t)
Syncs t ram old (Err other) new u = ⊥

-- the call, which tells how many writes were made
abbrev pub SyncsIn : Option Tagged → List ℕ → ℕ → ℕ → ℕ → Option Tagged → Type 0
SyncsIn None ram old code new after = (code ≡ number_of NoMachine) × (new ≡ old) × (after ≡ None)
SyncsIn (Some t) ram old code new after =
    (u : Tagged) × (outcome : Result (Unit {0}) Refused) × Syncs t ram old outcome new u × (code ≡ number outcome)
    × (after ≡ Some u)
