-- A captured frame, without where its octets lie in memory.
use Rattle.std.specs.Prelude.{ℕ, List, [], ◌++◌, length, Option, Some, None, nat_lt, if◌then◌else◌}
use Rattle.em_pcap.specs.declared.packet.Packet.{Packet}
use Rattle.em_pcap.specs.declared.packet.Cut.{Cut}

pub record Frame : Type 0 where
  -- those that were captured
  pub octets : List ℕ
  -- how many it had
  pub original : ℕ
  -- in nanoseconds since 1970 began, where the file says it
  pub time : Option ℕ

-- the octets of a header, where there is one
abbrev pub header_octets : Option (List ℕ) → List ℕ
header_octets None = []
header_octets (Some header) = header

abbrev pub frame_of : Packet → Frame
frame_of packet = record {
  octets = header_octets packet.header ++ packet.octets.now;
  original = packet.original;
  time = packet.time;
}

-- fewer octets were captured than it had
abbrev pub cut_of : Frame → Option Cut
cut_of frame =
    if nat_lt (length frame.octets) frame.original
    then Some (record { captured = length frame.octets; original = frame.original })
    else None
