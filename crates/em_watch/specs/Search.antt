-- A search for changes: over what, of what, and from how many steps back on.
use Rattle.std.specs.Prelude.{◌≡◌, ℕ, ◌-◌, length, Option, MatchOption, refl}
use Rattle.std.specs.Coded.{Coded, code_by, coded×, coded_ℕ}
use Rattle.std.specs.Iterator.{Count, at_most}
use Rattle.em_journal.specs.View.{View, view_code}
use Rattle.em_watch.specs.Change.{IsNextChange, NeverDiffers}
use Rattle.em_watch.specs.declared.watch.Watch.{Watch}
use Rattle.em_watch.specs.declared.change.Change.{Change}

pub record Search : Type 0 where
  pub view : View
  pub watch : Watch
  pub back : ℕ

-- a search is stored as the tuple of its fields
abbrev pub search_code : Coded Watch → Coded Search
search_code watch_code =
    code_by (View × (Watch × ℕ)) (coded× view_code (coded× watch_code coded_ℕ)) (λ s. (s.view, (s.watch, s.back)))
    (λ p. record { view = p.0; watch = p.1.0; back = p.1.1 }) (λ _. refl)

-- the next change is given, and the search goes on from there; or there is none, and the search stays
abbrev pub GivesNext : Search → Option Change → Search → Type 0
GivesNext s given t =
    MatchOption given (NeverDiffers s.watch s.view s.back × (t ≡ s))
    (λ change. IsNextChange s.watch s.view s.back change × (t ≡ record s { back = change.back }))

-- each change is an event's
abbrev pub changes_left : Search → Count
changes_left s = at_most (length s.view.past - s.back)
