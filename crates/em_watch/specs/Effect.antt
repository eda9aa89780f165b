-- What an event did: over what, and of which event. So many steps back lead to just before it.
use Rattle.std.specs.Prelude.{ℕ, refl}
use Rattle.std.specs.Coded.{Coded, code_by, coded×, coded_ℕ}
use Rattle.em_journal.specs.View.{View, view_code}

pub record Effect : Type 0 where
  pub view : View
  pub back : ℕ

-- stored as the pair of its fields
abbrev pub effect_code : Coded Effect
effect_code =
    code_by (View × ℕ) (coded× view_code coded_ℕ) (λ e. (e.view, e.back)) (λ p. record { view = p.0; back = p.1 })
    (λ _. refl)
