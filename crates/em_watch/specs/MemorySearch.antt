-- A search for the octets that an event changed: over what, of which event, and from which address on.
use Rattle.std.specs.Prelude.{◌≡◌, ℕ, ◌+◌, ◌-◌, ◌≤◌, length, Option, MatchOption, refl}
use Rattle.std.specs.Coded.{Coded, code_by, coded×, coded_ℕ}
use Rattle.std.specs.Iterator.{Count, at_most}
use Rattle.em_journal.specs.View.{View, view_code}
use Rattle.em_watch.specs.MemoryChange.{IsMemoryChange, LeavesOctets, LeavesRest}
use Rattle.em_watch.specs.declared.octets.MemoryChange.{MemoryChange}

pub record MemorySearch : Type 0 where
  pub view : View
  pub back : ℕ
  pub addr : ℕ

-- a search is stored as the tuple of its fields
abbrev pub memory_search_code : Coded MemorySearch
memory_search_code =
    code_by (View × (ℕ × ℕ)) (coded× view_code (coded× coded_ℕ coded_ℕ)) (λ s. (s.view, (s.back, s.addr)))
    (λ p. record { view = p.0; back = p.1.0; addr = p.1.1 }) (λ _. refl)

-- the next octets that the event changed are given
pub record AreNextOctets (s : MemorySearch) (change : MemoryChange) : Type 0 where
  pub changed : IsMemoryChange s.view s.back change
  pub from : s.addr ≤ change.range.addr
  pub first : LeavesOctets s.view s.back s.addr change.range.addr

-- and the search goes on behind them; or there are none, and the search stays
abbrev pub GivesOctets : MemorySearch → Option MemoryChange → MemorySearch → Type 0
GivesOctets s given t =
    MatchOption given (LeavesRest s.view s.back s.addr × (t ≡ s))
    (λ change. AreNextOctets s change × (t ≡ record s { addr = change.range.addr + change.range.len }))

-- each lies behind the one before it, in memory
abbrev pub octets_left : MemorySearch → Count
octets_left s = at_most (length s.view.present.memory - s.addr)
