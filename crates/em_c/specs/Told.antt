-- Values as C sees them.
use Rattle.std.specs.Prelude.{ℕ, ◌-◌, ◌^◌, nat_lt, Bool, if◌then◌else◌}

-- an address; of one behind all of 64 bits the last of these
abbrev pub address_told : ℕ → ℕ
address_told at = if nat_lt at (2 ^ 64) then at else 2 ^ 64 - 1

-- 1 where it is so
abbrev pub flag : Bool → ℕ
flag is = if is then 1 else 0
