-- The frames of captures, each handed over once.
use Rattle.std.specs.Prelude.{◌≡◌, ℕ, ◌++◌, nat_lt, is_some, unwrap_or, if◌then◌else◌, List, [], ◌∷◌, drop, length, map}
use Rattle.std.specs.Prelude.{Bool, true, false, Option, Some, None, Result, Ok, Err}
use Rattle.std.specs.Option.{option_map}
use Rattle.em_pcap.specs.declared.fault.FaultKind.{FaultKind}
use Rattle.em_pcap.specs.declared.fault.FaultKind.TheVariants.{Magic, Version, CutShort, BlockLength, LinkType}
use Rattle.em_pcap.specs.declared.fault.FaultKind.TheVariants.{CapturedLength, NoInterface}
use Rattle.em_pcap.specs.declared.fault.CaptureFault.{CaptureFault}
use Rattle.em_pcap.specs.Frame.{Frame}
use Rattle.em_pcap.specs.Reading.{Reading, reading_of}
use Rattle.em_c.specs.declared.captured.Captured.{Captured}
use Rattle.em_c.specs.declared.captured.EmPcapFrame.{EmPcapFrame}
use Rattle.em_c.specs.declared.captured.Frames.{Frames}
use Rattle.em_c.specs.declared.refused.Refused.{Refused}
use Rattle.em_c.specs.declared.refused.Refused.TheVariants.{Memory, Room, NoCapture, HasCapture, CaptureEnd, CaptureMagic}
use Rattle.em_c.specs.declared.refused.Refused.TheVariants.{CaptureVersion, CaptureCut, CaptureBlock, CaptureLink}
use Rattle.em_c.specs.declared.refused.Refused.TheVariants.{CaptureLength, CaptureInterface}
use Rattle.em_c.specs.Refused.{number_of}
use Rattle.em_c.specs.Looks.{laid_into}
use Rattle.em_c.specs.Told.{flag}

-- a frame as em_pcap's definitions have it
abbrev pub frame_in : Captured → Frame
frame_in c = record { octets = c.octets.items; original = c.original; time = c.time }

-- what is left to hand over: the frames, and the fault behind them if there is one
abbrev pub reading_in : Frames → Reading
reading_in f = record { packets = map frame_in f.queue.items; fault = f.fault }

-- one frame more; where memory was refused, that is of no account
abbrev pub Adds : Frame → Frames → Frames → Bool → Type 0
Adds frame old new true =
    (map frame_in new.queue.items ≡ map frame_in old.queue.items ++ frame ∷ []) × (new.fault ≡ old.fault)
Adds frame old new false = Unit {0}

-- ---- the next frame

-- what is wrong with a capture
abbrev pub of_fault : FaultKind → Refused
of_fault Magic = CaptureMagic
of_fault Version = CaptureVersion
of_fault CutShort = CaptureCut
of_fault BlockLength = CaptureBlock
of_fault LinkType = CaptureLink
of_fault CapturedLength = CaptureLength
of_fault NoInterface = CaptureInterface

-- why no frame follows the last one: the capture ends, or its fault is there
abbrev pub end_of : Option CaptureFault → Refused
end_of None = CaptureEnd
end_of (Some fault) = of_fault fault.kind

abbrev pub first_or : Refused → List Frame → Result Frame Refused
first_or refused [] = Err refused
first_or refused (frame ∷ frames) = Ok frame

-- the first frame that was not handed over, if there is one
abbrev pub first_in : Reading → Result Frame Refused
first_in reading = first_or (end_of reading.fault) reading.packets

-- of the capture that is held, where one is
abbrev pub asked : {X : Type 0} → Option Frames → (Reading → Result X Refused) → Result X Refused
asked None question = Err NoCapture
asked (Some f) question = question (reading_in f)

abbrev pub next_in : Option Frames → Result Frame Refused
next_in held = asked held first_in

-- its octets
abbrev pub octets_of : Result Frame Refused → Result (List ℕ) Refused
octets_of (Ok frame) = Ok frame.octets
octets_of (Err refused) = Err refused

-- what is told of it beside them
abbrev pub frame_told : ℕ → Option ℕ → EmPcapFrame
frame_told original time =
    record { nanoseconds = unwrap_or time 0; original = original; timed = flag (is_some time) }

-- where there is room for its octets
abbrev pub told_into : List ℕ → Result Frame Refused → Result EmPcapFrame Refused
told_into room (Ok frame) =
    if nat_lt (length room) (length frame.octets) then Err Room else Ok (frame_told frame.original frame.time)
told_into room (Err refused) = Err refused

-- where it was laid into the room for it, it was handed over; else nothing changes
abbrev pub behind : {X : Type 0} → Result X Refused → Reading → Reading
behind (Ok octets) reading = record { packets = drop 1 reading.packets; fault = reading.fault }
behind (Err refused) reading = reading

abbrev pub after_next : List ℕ → Reading → Reading
after_next room reading = behind (laid_into room (octets_of (first_in reading))) reading

-- what is left of the capture that is held, where one is
abbrev pub left_in : Option Frames → Option Reading
left_in held = option_map reading_in held

abbrev pub left_behind : List ℕ → Option Reading → Option Reading
left_behind room left = option_map (after_next room) left

-- ---- opening

-- the address that a machine has where nobody says otherwise: so has the one that made a capture of cooked packets
abbrev pub own_address : List ℕ
own_address = 0x52 ∷ 0x54 ∷ 0x00 ∷ 0x12 ∷ 0x34 ∷ 0x56 ∷ []

-- a capture that is held stays; else its frames are there then, as em_pcap reads them of the octets of its file, unless
-- memory is refused
abbrev pub IsOpened : List ℕ → ℕ → Option Frames → Type 0
IsOpened file code (Some f) = (code ≡ 0) × (reading_in f ≡ reading_of own_address file)
IsOpened file code None = code ≡ number_of Memory

abbrev pub Opens : Option Frames → List ℕ → ℕ → Option Frames → Type 0
Opens (Some f) file code after = (code ≡ number_of HasCapture) × (after ≡ Some f)
Opens None file code after = IsOpened file code after

-- ---- the fault

-- the offset in the file of the header, the record or the block in which it is
abbrev pub offset_or_end : Option CaptureFault → Result ℕ Refused
offset_or_end None = Err CaptureEnd
offset_or_end (Some fault) = Ok fault.offset

abbrev pub fault_in : Reading → Result ℕ Refused
fault_in reading = offset_or_end reading.fault
