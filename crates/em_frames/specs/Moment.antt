-- Times as logs and scripts write them: seconds, a point, and six digits of microseconds, as `1.500100`.
use Rattle.std.specs.Prelude.{ℕ, ◌+◌, ◌-◌, ◌*◌, ◌==◌, ◌&&◌, nat_le, nat_lt, Bool, if◌then◌else◌}
use Rattle.std.specs.Prelude.{List, [], ◌∷◌, length, take, drop, slice_index, Option, Some, None}

abbrev pub is_digit : ℕ → Bool
is_digit octet = nat_le 48 octet && nat_le octet 57

-- the number that digits write behind those that write this one, if it is below 2^32
abbrev pub digits_behind : ℕ → List ℕ → Option ℕ
digits_behind before [] = if nat_lt before 4294967296 then Some before else None
digits_behind before (octet ∷ octets) =
    if nat_lt before 4294967296 && is_digit octet then digits_behind (before * 10 + (octet - 48)) octets else None

-- the number that digits write
abbrev pub number_in : List ℕ → Option ℕ
number_in text = digits_behind 0 text

-- so many seconds and microseconds in nanoseconds
abbrev pub nanoseconds_of : Option ℕ → Option ℕ → Option ℕ
nanoseconds_of (Some seconds) (Some micros) = Some (seconds * 1000000000 + micros * 1000)
nanoseconds_of _ _ = None

-- the time that a text is, if it is one
abbrev pub time_in : List ℕ → Option ℕ
time_in text =
    let point = length text - 7 in
    if nat_lt 7 (length text) && (slice_index text point == 46)
    then nanoseconds_of (number_in (take point text)) (number_in (drop (point + 1) text))
    else None
