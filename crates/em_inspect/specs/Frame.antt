-- Ethernet frames.
use Rattle.std.specs.Prelude.{ℕ, ◌+◌, ◌*◌, ◌==◌, ◌&&◌, nat_le, nat_lt, if◌then◌else◌, Bool, List, [], ◌∷◌, ◌++◌, length}
use Rattle.std.specs.Prelude.{take, drop, slice_index, codes, decimal, Option, Some, None}
use Rattle.std.specs.List.{flat_map}
use Rattle.em_text.specs.Writer.{hex_text}
use Rattle.em_inspect.specs.declared.frame.Heading.{Heading}
use Rattle.em_inspect.specs.declared.piece.Cell.TheVariants.{Behind}
use Rattle.em_inspect.specs.Piece.{cell_text, tag_text, kind_text}
use Rattle.em_inspect.specs.Lines.{lines_text}

-- two octets, the higher first
abbrev pub number_at : List ℕ → ℕ → ℕ
number_at octets k = slice_index octets k * 256 + slice_index octets (k + 1)

-- six octets
abbrev pub address_at : List ℕ → ℕ → List ℕ
address_at octets k =
    slice_index octets k ∷ slice_index octets (k + 1) ∷ slice_index octets (k + 2) ∷ slice_index octets (k + 3)
    ∷ slice_index octets (k + 4) ∷ slice_index octets (k + 5) ∷ []

-- a tag follows where the type is 8100, and a type behind it
abbrev pub is_tagged : List ℕ → Bool
is_tagged octets = nat_le 18 (length octets) && number_at octets 12 == 0x8100

-- the tag of a frame: the one that was taken out of it, or else the one that lies there
abbrev pub tag_in : List ℕ → Option ℕ → Option ℕ
tag_in octets None = if is_tagged octets then Some (number_at octets 14) else None
tag_in octets (Some tag) = Some tag

-- where the type lies: behind the tag, if one lies there
abbrev pub kind_at : List ℕ → Option ℕ → ℕ
kind_at octets None = if is_tagged octets then 16 else 12
kind_at octets (Some tag) = 12

-- the destination, the source, the tag, and the type behind it, of a frame that the tag was taken out of, if one was
abbrev pub heading_of : List ℕ → Option ℕ → Heading
heading_of octets taken = record {
  to = address_at octets 0;
  from = address_at octets 6;
  tag = tag_in octets taken;
  kind = number_at octets (kind_at octets taken);
}

abbrev pub stored_heading : List ℕ → Option ℕ → Option Heading
stored_heading octets taken = if nat_lt (length octets) 14 then None else Some (heading_of octets taken)

-- the heading of a frame whose octets are all there
abbrev pub heading_in : List ℕ → Option Heading
heading_in octets = stored_heading octets None

-- ---- as text

-- an address, its octets with colons between them, and a text behind it
abbrev pub mac_then : List ℕ → List ℕ → List ℕ
mac_then address text =
    hex_text (take 1 address) ++ (flat_map (cell_text (Behind 58)) (drop 1 address) ++ text)

-- the line of a heading, where there is one, of a frame of n octets
abbrev pub heading_line : Option Heading → ℕ → List ℕ
heading_line None n = []
heading_line (Some heading) n =
    codes "to "
    ++ mac_then heading.to
    (codes "  from "
    ++ mac_then heading.from
    (tag_text heading.tag ++ (kind_text heading.kind ++ (codes "  " ++ (decimal n ++ codes " octets\n")))))

-- that line of a frame that the tag was taken out of, if one was
abbrev pub stored_line : List ℕ → Option ℕ → List ℕ
stored_line octets taken = heading_line (stored_heading octets taken) (length octets)

-- that line, and the lines of its octets
abbrev pub stored_text : List ℕ → Option ℕ → List ℕ
stored_text octets taken = stored_line octets taken ++ lines_text 0 octets

-- the same of a frame whose octets are all there
abbrev pub frame_text : List ℕ → List ℕ
frame_text octets = stored_text octets None
