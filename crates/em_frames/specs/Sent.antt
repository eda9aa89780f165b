-- The frames that a machine sent, as a capture.
use Rattle.std.specs.Prelude.{ℕ, min, List, [], ◌∷◌, ◌++◌, length, take}
use Rattle.em_pcap.specs.Writing.{header_text, record_text}

-- the record of a frame with a time: both are as large as a record allows at most
abbrev pub frame_text : ℕ → List ℕ → List ℕ
frame_text time octets =
    record_text (record { time = min time 4294967295999999999; octets = take (min (length octets) 65535) octets })

-- the records of frames, each with its time
abbrev pub frames_text : List ℕ → List (List ℕ) → List ℕ
frames_text times [] = []
frames_text [] (frame ∷ frames) = []
frames_text (time ∷ times) (frame ∷ frames) = frame_text time frame ++ frames_text times frames

-- the times are the caller's, one for each frame
abbrev pub sent_capture : List ℕ → List (List ℕ) → List ℕ
sent_capture times wire = header_text ++ frames_text times wire
