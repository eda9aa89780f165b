-- Octets in lines of 16.
use Rattle.std.specs.Prelude.{ℕ, ◌+◌, ◌*◌, List, ◌++◌, length, drop, replicate, codes}
use Rattle.std.specs.List.{flat_map, range_with_len}
use Rattle.std.specs.Int.{div_ceil}
use Rattle.em_mem.specs.Memory.{part}
use Rattle.em_inspect.specs.declared.piece.Cell.TheVariants.{Behind, Character}
use Rattle.em_inspect.specs.AddressText.{address_text}
use Rattle.em_inspect.specs.Piece.{cell_text}

-- a line of up to 16 octets that lie from an address on: the address, the octets in digits, each behind a space, with
-- spaces for those that 16 have more, and the octets as characters
abbrev pub line_text : ℕ → List ℕ → List ℕ
line_text address octets =
    address_text address
    ++ (codes " " ++ (flat_map (cell_text (Behind 32)) octets ++ (drop (3 * length octets) (replicate 48 32)
    ++ (codes "  " ++ (flat_map (cell_text Character) octets ++ codes "\n")))))

-- line k of octets that lie from an address on
abbrev pub line_at : ℕ → List ℕ → ℕ → List ℕ
line_at address octets k = line_text (address + 16 * k) (part octets (16 * k) 16)

-- the lines of octets that lie from an address on
abbrev pub lines_text : ℕ → List ℕ → List ℕ
lines_text address octets = flat_map (line_at address octets) (range_with_len 0 (div_ceil (length octets) 16))
