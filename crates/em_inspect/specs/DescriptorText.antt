-- A descriptor as a line.
use Rattle.std.specs.Prelude.{ℕ, if◌then◌else◌, Bool, List, ◌++◌, codes, Option, Some, None}
use Rattle.em_inspect.specs.declared.ring.Owner.{Owner}
use Rattle.em_inspect.specs.declared.ring.Owner.TheVariants.{Adapter, Driver}
use Rattle.em_inspect.specs.declared.descriptor.Fields.{Fields}
use Rattle.em_inspect.specs.declared.descriptor.Descriptor.{Descriptor}
use Rattle.em_inspect.specs.AddressText.{address_text}
use Rattle.em_inspect.specs.Bits.{bits_text}
use Rattle.em_inspect.specs.Piece.{column_text}
use Rattle.em_inspect.specs.TroubleText.{trouble_text}

-- the mark of the head or the tail, where it stands here
abbrev pub mark_text : Bool → List ℕ → List ℕ
mark_text here mark = if here then mark else codes " "

abbrev pub owner_text : Owner → List ℕ
owner_text Adapter = codes "  adapter"
owner_text Driver = codes "   driver"

-- its marks, its index, where it lies, and a text behind that
abbrev pub place_then : Descriptor → List ℕ → List ℕ
place_then d text =
    mark_text d.is_head (codes ">")
    ++ (mark_text d.is_tail (codes "<")
    ++ (column_text d.index ++ (codes "  at " ++ (address_text d.address ++ text))))

-- a descriptor that says what the fields are
abbrev pub fields_line : Descriptor → Fields → List ℕ
fields_line d f =
    place_then d
    (codes "  buffer "
    ++ (address_text f.buffer
    ++ (codes "  length "
    ++ (column_text f.length
    ++ (owner_text d.owner ++ (bits_text f.bits ++ (trouble_text d.trouble ++ codes "\n")))))))

-- one that says nothing
abbrev pub outside_line : Descriptor → List ℕ
outside_line d = place_then d (trouble_text d.trouble ++ codes "\n")

abbrev pub line_of : Descriptor → Option Fields → List ℕ
line_of d None = outside_line d
line_of d (Some f) = fields_line d f

abbrev pub descriptor_text : Descriptor → List ℕ
descriptor_text d = line_of d d.fields
