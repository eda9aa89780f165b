-- A search for the registers that an event changed: over what, of which event, and from which offset on.
use Rattle.std.specs.Prelude.{◌≡◌, ℕ, ◌+◌, ◌-◌, ◌<◌, ◌≤◌, length, Option, MatchOption, refl}
use Rattle.std.specs.Coded.{Coded, code_by, coded×, coded_ℕ}
use Rattle.std.specs.Iterator.{Count, at_most}
use Rattle.em_regs.specs.Table.{offset_of}
use Rattle.em_journal.specs.View.{View, view_code}
use Rattle.em_watch.specs.Difference.{IsRegisterChange, LeavesRegisters}
use Rattle.em_watch.specs.declared.registers.RegisterChange.{RegisterChange}

pub record RegisterSearch : Type 0 where
  pub view : View
  pub back : ℕ
  pub offset : ℕ

-- a search is stored as the tuple of its fields
abbrev pub register_search_code : Coded RegisterSearch
register_search_code =
    code_by (View × (ℕ × ℕ)) (coded× view_code (coded× coded_ℕ coded_ℕ)) (λ s. (s.view, (s.back, s.offset)))
    (λ p. record { view = p.0; back = p.1.0; offset = p.1.1 }) (λ _. refl)

-- so many steps back lead to just before an event
abbrev pub IsOfAnEvent : View → ℕ → Type 0
IsOfAnEvent v back = (0 < back) × (back ≤ length v.past)

-- the next register that the event changed is given
pub record IsNextRegister (s : RegisterSearch) (change : RegisterChange) : Type 0 where
  pub changed : IsRegisterChange s.view s.back change
  pub from : s.offset ≤ offset_of change.reg
  pub first : LeavesRegisters s.view s.back s.offset (offset_of change.reg)

-- and the search goes on behind it; or there is none, and the search stays
abbrev pub GivesRegister : RegisterSearch → Option RegisterChange → RegisterSearch → Type 0
GivesRegister s given t =
    MatchOption given (LeavesRegisters s.view s.back s.offset 0x06000 × (t ≡ s))
    (λ change. IsNextRegister s change × (t ≡ record s { offset = offset_of change.reg + 1 }))

-- each lies at an offset of its own, below 06000h
abbrev pub registers_left : RegisterSearch → Count
registers_left s = at_most (0x06000 - s.offset)
