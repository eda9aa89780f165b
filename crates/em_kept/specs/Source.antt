-- Where a call comes from, and how a line says that.
use Rattle.std.specs.Prelude.{◌≡◌, ℕ, Bool, false, not, ◌-◌, ◌<◌, ◌≤◌, ◌==◌, ◌||◌, ◌&&◌, nat_lt, if◌then◌else◌}
use Rattle.std.specs.Prelude.{List, [], ◌++◌, length, drop, map, slice_index, codes, decimal, Option, Some, None}
use Rattle.std.specs.List.{range_with_len}
use Rattle.em_line.specs.Parts.{stands_at}
use Rattle.em_kept.specs.Digits.{number_digits}
use Rattle.em_kept.specs.declared.source.Source.{Source as Lent}
use Rattle.em_kept.specs.declared.source.Source.TheVariants as lent

pub data Source : Type 0 where
  unknown : Source
  -- a line of a file
  line : List ℕ → ℕ → Source
  -- a program counter
  counter : ℕ → Source

-- a source of the code without where its octets lie in memory
abbrev pub plain : Lent → Source
plain lent.Unknown = unknown
plain (lent.Line file number) = line file.now number
plain (lent.Counter at) = counter at

-- ---- the name of a file

-- the octets below the space, and that of the key Delete
abbrev pub is_control : ℕ → Bool
is_control octet = nat_lt octet 32 || octet == 127

-- A control octet could end the line, a hash that begins a word begins a comment, and of a space at the front nothing
-- is read back.
abbrev pub is_replaced : List ℕ → ℕ → Bool
is_replaced name at =
    is_control (slice_index name at) || (stands_at 35 name at || (at == 0 && slice_index name at == 32))

-- a question mark stands for it
abbrev pub shown_at : List ℕ → ℕ → ℕ
shown_at name at = if is_replaced name at then 63 else slice_index name at

-- so many octets from one on
unfoldable pub shown_from : List ℕ → ℕ → ℕ → List ℕ
shown_from name at n = map (shown_at name) (range_with_len at n)

abbrev pub shown : List ℕ → List ℕ
shown name = shown_from name 0 (length name)

-- an octet that is replaced nowhere: no control octet, no space and no hash
abbrev pub is_solid : ℕ → Bool
is_solid octet = not (is_control octet || (octet == 32 || octet == 35))

-- the last 4,096 octets
abbrev pub last_of : List ℕ → List ℕ
last_of file = drop (length file - 4_096) file

-- a name that is written as it is
pub record IsPlain (file : List ℕ) : Type 0 where
  pub short : length file ≤ 4_096
  pub shown : (at : ℕ) → at < length file → is_replaced file at ≡ false

-- ---- in a line

abbrev pub line_place : List ℕ → ℕ → List ℕ
line_place file number = shown (last_of file) ++ (codes ":" ++ decimal number)

-- how it stands there, where it is known
abbrev pub place_of : Source → Option (List ℕ)
place_of unknown = None
place_of (line file number) = Some (line_place file number)
place_of (counter at) = Some (codes "0x" ++ number_digits at)

abbrev pub placed : Option (List ℕ) → List ℕ
placed None = []
placed (Some place) = codes " @" ++ place

-- and the end of the line
abbrev pub end_text : Source → List ℕ
end_text source = placed (place_of source) ++ codes "\n"

-- the same of a line of a file, from its name on
abbrev pub line_number_text : ℕ → List ℕ
line_number_text number = codes ":" ++ (decimal number ++ codes "\n")

abbrev pub named_text : List ℕ → ℕ → List ℕ
named_text name number = shown name ++ line_number_text number

abbrev pub place_text : List ℕ → ℕ → List ℕ
place_text file number = codes " @" ++ named_text (last_of file) number
