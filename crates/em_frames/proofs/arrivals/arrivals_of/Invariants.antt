use Rattle.em_pcap.specs.Capture.{calls_left, left_of}
use Rattle.em_pcap.specs.Reading.{reading_of}
use Rattle.em_frames.proofs.ArrivalLaws.{ReadSo}
use Rattle.em_frames.proofs.arrivals.arrivals_of.Given as goal

-- some frames were read
abbrev pub invariant-packets : goal.invariant-packets
invariant-packets l = ReadSo (reading_of l.fn.own l.fn.file) l.arrivals (left_of l.capture)

abbrev pub decreases-packets : goal.decreases-packets
decreases-packets l = calls_left l.capture
