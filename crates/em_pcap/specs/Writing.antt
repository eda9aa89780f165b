-- The capture that is written: a classic file with the lowest octet of a number first, and times in nanoseconds.
use Rattle.std.specs.Prelude.{ℕ, ◌/◌, ◌%◌, ◌<◌, ◌≤◌, List, ◌++◌, length, map, Some, None}
use Rattle.std.specs.List.{flat_map}
use Rattle.std.specs.Int.{w16, w32, to_le_bytes}
use Rattle.em_pcap.specs.declared.writer.TimedFrame.{TimedFrame}
use Rattle.em_pcap.specs.Frame.{Frame}
use Rattle.em_pcap.specs.Reading.{Reading}

-- a frame with its time in nanoseconds
pub record Timed : Type 0 where
  pub time : ℕ
  pub octets : List ℕ

abbrev pub timed : TimedFrame → Timed
timed frame = record { time = frame.time; octets = frame.octets.now }

-- what has a record: a time below 2^32 seconds, and no more octets than the snap length
pub record Fits (frame : Timed) : Type 0 where
  pub time : frame.time < 4294967296000000000
  pub octets : length frame.octets ≤ 65535

-- magic_number, version_major, version_minor, thiszone, sigfigs, snaplen, network
unfoldable pub header_text : List ℕ
header_text =
    to_le_bytes w32 0xA1B23C4D ++ (to_le_bytes w16 2 ++ (to_le_bytes w16 4 ++ (to_le_bytes w32 0
    ++ (to_le_bytes w32 0 ++ (to_le_bytes w32 65535 ++ to_le_bytes w32 1)))))

-- ts_sec, ts_nsec, incl_len, orig_len, and the frame
unfoldable pub record_text : Timed → List ℕ
record_text frame =
    to_le_bytes w32 (frame.time / 1000000000) ++ (to_le_bytes w32 (frame.time % 1000000000)
    ++ (to_le_bytes w32 (length frame.octets) ++ (to_le_bytes w32 (length frame.octets) ++ frame.octets)))

abbrev pub capture_text : List Timed → List ℕ
capture_text frames = header_text ++ flat_map record_text frames

-- a frame that is written is read whole, with its time
abbrev pub as_read : Timed → Frame
as_read frame = record { octets = frame.octets; original = length frame.octets; time = Some frame.time }

-- frames that are written are read, and no fault
abbrev pub all_read : List Timed → Reading
all_read frames = record { packets = map as_read frames; fault = None }
