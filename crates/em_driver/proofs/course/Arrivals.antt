-- How many arrivals there are.
use Rattle.std.proofs.Common.{◌≡◌, ◌∙◌, ℕ, ◌+◌, ◌≤◌, ◌<◌, List, [], ◌∷◌, ◌++◌, length, take, get_or, ap}
use Rattle.std.proofs.Common.{arith}
use Rattle.std.proofs.lemmas.List.{take_more}
use Rattle.em_turn.specs.Turn.{is_arrival, arrivals}
use Rattle.em_turn.specs.declared.turn.Turn.{Turn}
use Rattle.em_turn.specs.declared.turn.Turn.TheVariants.{Arrive, RxStep, TxStep}

pub arrival_least : (t : Turn) → is_arrival t ≤ 1
arrival_least (Arrive f) = omega arith
arrival_least RxStep = omega arith
arrival_least TxStep = omega arith

pub arrivals_least : (turns : List Turn) → arrivals turns ≤ length turns
arrivals_least [] = omega arith
arrivals_least (t ∷ turns) = omega (arith, arrival_least t, arrivals_least turns)

arrivals_one : (turns : List Turn) (t : Turn) → arrivals (turns ++ t ∷ []) ≡ arrivals turns + is_arrival t
arrivals_one [] t = omega arith
arrivals_one (u ∷ turns) t = omega (arith, arrivals_one turns t)

-- those of the first turns and of one more
pub arrivals_more : (turns : List Turn) (i : ℕ) (t : Turn) → i < length turns
    → arrivals (take (i + 1) turns) ≡ arrivals (take i turns) + is_arrival (get_or turns i t)
arrivals_more turns i t h = ap arrivals (take_more turns i t h) ∙ arrivals_one (take i turns) (get_or turns i t)
