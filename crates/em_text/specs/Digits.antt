-- The digits of many values at once.
use Rattle.std.specs.Prelude.{ℕ, ◌+◌, ◌%◌, nat_lt, if◌then◌else◌}

-- what a lane has for a value: a numeral, or a letter in upper case
abbrev pub lane_digit : ℕ → ℕ
lane_digit value = if nat_lt value 10 then (value + 48) % 256 else (value + 55) % 256
