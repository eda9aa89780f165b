-- Addresses.
use Rattle.std.specs.Prelude.{ℕ, ◌/◌, min, List, drop}
use Rattle.std.specs.Int.{w128, to_be_bytes, leading_zeros}
use Rattle.em_text.specs.Writer.{hex_text}

-- an address in hexadecimal digits: its octets without those in front that are 0, but three at least
abbrev pub address_text : ℕ → List ℕ
address_text address = hex_text (drop (min (leading_zeros w128 address / 8) 13) (to_be_bytes w128 address))
