-- A frame as the FIFO keeps it.
use Rattle.std.specs.Prelude.{ℕ, ◌+◌, ◌*◌, Bool, true, false, List, ◌++◌, length, take, drop, slice_index, Option, Some}
use Rattle.std.specs.Prelude.{None}

-- its octets, and the tag where one was taken out of them
pub record Frame : Type 0 where
  pub octets : List ℕ
  pub tag : Option ℕ

-- a tagged frame is stored without its octets 12 to 15, of which the last two, the higher first, are its tag;
-- any other frame is stored as it came
abbrev pub stored_frame : List ℕ → Bool → Frame
stored_frame octets false = record { octets = octets; tag = None }
stored_frame octets true =
    record {
      octets = take 12 octets ++ drop 16 octets;
      tag = Some (256 * slice_index octets 14 + slice_index octets 15);
    }

-- how many octets a frame has
abbrev pub len_of : Frame → ℕ
len_of frame = length frame.octets
