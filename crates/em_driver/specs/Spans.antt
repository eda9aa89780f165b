-- Calls of a driver and turns of other actors, one after another.
use Rattle.std.specs.Prelude.{◌≡◌, ℕ, List, [], ◌∷◌, ◌++◌, map}
use Rattle.em_step.specs.State.{State}
use Rattle.em_step.specs.Whole.{padded}
use Rattle.em_driver.specs.Order.{queued, waiting}
use Rattle.em_driver.specs.declared.layout.Layout.{Layout}

-- A call, or a turn between two calls: the frames that were stored meanwhile, the packets that were handed out, those
-- that were taken, the frames that went onto the wire, and the state that it led to.
pub record Span : Type 0 where
  pub stored : List (List ℕ)
  pub handed : List (List ℕ)
  pub taken : List (List ℕ)
  pub sent : List (List ℕ)
  pub now : State

-- the equations of one such span
pub record IsSpan (l : Layout) (s : State) (x : Span) : Type 0 where
  pub receive : waiting l s ++ x.stored ≡ x.handed ++ waiting l x.now
  pub transmit : s.wire ++ (queued l s ++ map padded x.taken) ≡ x.now.wire ++ queued l x.now
  pub is_sent : x.now.wire ≡ s.wire ++ x.sent

-- they hold for each, one after the other
abbrev pub AreSpans : Layout → State → List Span → Type 0
AreSpans l s [] = Unit {0}
AreSpans l s (x ∷ spans) = IsSpan l s x × AreSpans l x.now spans

abbrev pub all_stored : List Span → List (List ℕ)
all_stored [] = []
all_stored (x ∷ spans) = x.stored ++ all_stored spans

abbrev pub all_handed : List Span → List (List ℕ)
all_handed [] = []
all_handed (x ∷ spans) = x.handed ++ all_handed spans

abbrev pub all_taken : List Span → List (List ℕ)
all_taken [] = []
all_taken (x ∷ spans) = x.taken ++ all_taken spans

abbrev pub all_sent : List Span → List (List ℕ)
all_sent [] = []
all_sent (x ∷ spans) = x.sent ++ all_sent spans

-- the state that they led to
abbrev pub after_spans : State → List Span → State
after_spans s [] = s
after_spans s (x ∷ spans) = after_spans x.now spans

-- the one list is the beginning of the other
abbrev pub IsPrefix : List (List ℕ) → List (List ℕ) → Type 0
IsPrefix xs ys = (rest : List (List ℕ)) × (ys ≡ xs ++ rest)
