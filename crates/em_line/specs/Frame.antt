-- The octets of a frame, or of a packet, that words write.
use Rattle.std.specs.Prelude.{ℕ, ◌-◌, ◌&&◌, nat_le, if◌then◌else◌, List, ◌++◌, length, replicate, Option, Some, None}
use Rattle.std.specs.Prelude.{option_and_then}
use Rattle.em_text.specs.Numbers.{decimal_number, octets_of}
use Rattle.em_line.specs.Arguments.{Arguments, one, two}

-- DATA
abbrev pub data_of : Arguments → Option (List ℕ)
data_of (one digits) = octets_of digits
data_of _ = None

-- n octets: these, and zero octets behind them; n is at most 32,768, and not below their number
abbrev pub lengthened : ℕ → List ℕ → Option (List ℕ)
lengthened n octets =
    if nat_le (length octets) n && nat_le n 32_768 then Some (octets ++ replicate (n - length octets) 0) else None

-- DATA LEN
abbrev pub lengthened_data : List ℕ → List ℕ → Option (List ℕ)
lengthened_data digits len =
    option_and_then (λ n. option_and_then (lengthened n) (octets_of digits)) (decimal_number len)

-- DATA, or DATA LEN
abbrev pub frame_of : Arguments → Option (List ℕ)
frame_of (one digits) = octets_of digits
frame_of (two digits len) = lengthened_data digits len
frame_of _ = None
