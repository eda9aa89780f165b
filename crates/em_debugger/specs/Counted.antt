-- How many, as it is counted.
use Rattle.std.specs.Prelude.{ℕ, min}

-- a number as it is counted in 64 bits
abbrev pub counted : ℕ → ℕ
counted n = min n 0xFFFF_FFFF_FFFF_FFFF
