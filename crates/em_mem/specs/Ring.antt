-- A list whose end is followed by its beginning.
use Rattle.std.specs.Prelude.{ℕ, ◌-◌, nat_lt, if◌then◌else◌, List, ◌++◌, length, take, drop}

-- the list seen from place k on
abbrev pub turn : {A : Type 0} → ℕ → List A → List A
turn k xs = drop k xs ++ take k xs

-- the list that is seen so from place k on
abbrev pub unturn : {A : Type 0} → ℕ → List A → List A
unturn k xs = drop (length xs - k) xs ++ take (length xs - k) xs

-- the n items from place k on, past the end from the beginning
abbrev pub ring_part : {A : Type 0} → List A → ℕ → ℕ → List A
ring_part xs k n = take n (turn k xs)

-- the list with the items d from place k on, past the end from the beginning
abbrev pub ring_put : {A : Type 0} → List A → ℕ → List A → List A
ring_put xs k d = unturn k (d ++ drop (length d) (turn k xs))

-- place n in a ring of the given size, where n may be past the end once
abbrev pub wrap : ℕ → ℕ → ℕ
wrap size n = if nat_lt n size then n else n - size
