-- The pieces that a line is made of.
use Rattle.std.specs.Prelude.{ℕ, ◌/◌, ◌%◌, ◌==◌, ◌&&◌, nat_le, if◌then◌else◌, List, [], ◌∷◌, ◌++◌, codes}
use Rattle.std.specs.Prelude.{min, length, drop, replicate, decimal, Option, Some, None}
use Rattle.std.specs.List.{flat_map}
use Rattle.em_text.specs.Writer.{hex_text}
use Rattle.em_inspect.specs.AddressText.{address_text}
use Rattle.em_inspect.specs.Bits.{bits_text}
use Rattle.em_inspect.specs.TroubleText.{trouble_text}
use Rattle.em_inspect.specs.declared.ring.Side.{Side}
use Rattle.em_inspect.specs.declared.ring.Side.TheVariants.{Receive, Transmit}
use Rattle.em_inspect.specs.declared.piece.Cell.{Cell}
use Rattle.em_inspect.specs.declared.piece.Cell.TheVariants.{Behind, Character}
use Rattle.em_inspect.specs.declared.piece.Piece.{Piece}
use Rattle.em_inspect.specs.declared.piece.Piece.TheVariants.{Text, Number, Column, Address, Digits}
use Rattle.em_inspect.specs.declared.piece.Piece.TheVariants.{Cells, Tag, Kind, Buffers, Bits, Trouble}

-- a printable ASCII character, or a dot
abbrev pub printable : ℕ → ℕ
printable octet = if nat_le 32 octet && nat_le octet 126 then octet else 46

-- an octet among others
abbrev pub cell_text : Cell → ℕ → List ℕ
cell_text (Behind between) octet = between ∷ hex_text (octet ∷ [])
cell_text Character octet = printable octet ∷ []

-- the tag of a frame: its VLAN in the low 12 bits, CFI (bit 12), and its priority above
abbrev pub cfi_text : ℕ → List ℕ
cfi_text tag = if tag / 4096 % 2 == 1 then codes " CFI" else []

abbrev pub tag_text : Option ℕ → List ℕ
tag_text None = []
tag_text (Some tag) =
    codes "  tag VLAN " ++ (decimal (tag % 4096) ++ (cfi_text tag ++ (codes " priority " ++ decimal (tag / 8192))))

-- the type of what a frame carries, in four hexadecimal digits; up to 1500 it is how many octets that is
abbrev pub kind_text : ℕ → List ℕ
kind_text kind =
    if nat_le kind 1500 then codes "  length " ++ decimal kind
    else codes "  type " ++ (hex_text (kind / 256 ∷ []) ++ hex_text (kind % 256 ∷ []))

-- a number in decimal digits that end in the fifth column
abbrev pub column_text : ℕ → List ℕ
column_text number = drop (min (length (decimal number)) 5) (replicate 5 32) ++ decimal number

-- the size of a ring's buffers, where it has one for all
abbrev pub buffers_text : Side → List ℕ
buffers_text (Receive size) = codes "  buffers of " ++ (decimal size ++ codes " octets")
buffers_text Transmit = []

abbrev pub piece_text : Piece → List ℕ
piece_text (Text text) = text.now
piece_text (Number number) = decimal number
piece_text (Column number) = column_text number
piece_text (Address address) = address_text address
piece_text (Digits octets) = hex_text octets.now
piece_text (Cells cell octets) = flat_map (cell_text cell) octets.now
piece_text (Tag tag) = tag_text tag
piece_text (Kind kind) = kind_text kind
piece_text (Buffers side) = buffers_text side
piece_text (Bits bits) = bits_text bits
piece_text (Trouble trouble) = trouble_text trouble
