-- What lies before the one who runs a script.
use Rattle.std.specs.Prelude.{ℕ, Bool, false, List, Option, None, refl}
use Rattle.std.specs.Coded.{Coded, code_by, coded×, coded_list, coded_bool, coded_ℕ, coded_option}
use Rattle.em_journal.specs.View.{View, view_code}
use Rattle.em_turn.specs.Turn.{turn_code}
use Rattle.em_turn.specs.declared.turn.Turn.{Turn}

pub record Session : Type 0 where
  -- the machine, with what it can go back to
  pub machine : View
  -- whether a driver stands on it
  pub started : Bool
  -- the plan for the next call of a driver, where a line set one since the last call
  pub plan : Option (List (List Turn))
  -- how many events the last call of a driver performed, those of the turns that fell into it among them
  pub events : ℕ

abbrev pub session_code : Coded Session
session_code =
    code_by (View × (Bool × (Option (List (List Turn)) × ℕ)))
    (coded× view_code (coded× coded_bool (coded× (coded_option (coded_list (coded_list turn_code))) coded_ℕ)))
    (λ s. (s.machine, (s.started, (s.plan, s.events))))
    (λ p. record { machine = p.0; started = p.1.0; plan = p.1.1.0; events = p.1.1.1 }) (λ _. refl)

-- a session with a machine that nothing stands on, and no plan
abbrev pub bare : View → Session
bare machine = record { machine = machine; started = false; plan = None; events = 0 }
