-- Places in a ring of n, from one place up to but not another.
use Rattle.std.specs.Prelude.{ℕ, zero, suc, ◌+◌, ◌-◌, nat_lt, nat_le, Bool, if◌then◌else◌, List, [], ◌∷◌}

-- how far place i lies behind place a
abbrev pub distance : ℕ → ℕ → ℕ → ℕ
distance n a i = if nat_le a i then i - a else i + n - a

-- place i is one of those from a up to but not b
abbrev pub is_among : ℕ → ℕ → ℕ → ℕ → Bool
is_among n a b i = nat_lt (distance n a i) (distance n a b)

-- the place that lies j behind a
abbrev pub place : ℕ → ℕ → ℕ → ℕ
place n a j = if nat_lt (a + j) n then a + j else a + j - n

-- what f gives of the first k numbers
abbrev pub listed : {X : Type 0} → (ℕ → X) → ℕ → List X
listed f zero = []
listed f (suc k) = f 0 ∷ listed (λ j. f (suc j)) k

-- what f gives of the places from a up to but not b, one after the other
abbrev pub between : {X : Type 0} → ℕ → ℕ → ℕ → (ℕ → X) → List X
between n a b f = listed (λ j. f (place n a j)) (distance n a b)
