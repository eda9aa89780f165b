-- What passes at a console, turn by turn.
use Rattle.std.specs.Prelude.{◌≡◌, ℕ, Bool, true, false, List, [], ◌∷◌, Result, Ok, Err}

pub data Turn : Type 0 where
  -- a line was asked for, and typed
  Typed : List ℕ → Turn
  -- a line was asked for, and none comes any more
  Over : Turn
  -- a line was asked for, and the console failed
  Failed : Turn
  -- a text was told, whole
  Told : List ℕ → Turn
  -- a text was told up to here, and then the console failed
  Cut : List ℕ → Turn

-- the turn of a line that was asked for
abbrev pub asked : {E : Type 0} → Result Bool E → List ℕ → Turn
asked (Ok true) line = Typed line
asked (Ok false) line = Over
asked (Err fault) line = Failed

-- these steps lead from one state to another, in this order
abbrev pub Leads : {X A : Type 0} → (A → X → A → Type 0) → List X → A → A → Type 0
Leads Step [] first last = last ≡ first
Leads {A = A} Step (x ∷ xs) first last = (next : A) × Step first x next × Leads Step xs next last
