use Rattle.em_pcap.specs.Capture.{calls_left, left_of}
use Rattle.em_pcap.specs.Reading.{reading_of}
use Rattle.em_c.specs.Pcap.{own_address}
use Rattle.em_c.proofs.PcapLaws.{ReadSo}
use Rattle.em_c.proofs.captured.Frames.read.Given as goal

-- some frames were read
abbrev pub invariant-packets : goal.invariant-packets
invariant-packets l = ReadSo (reading_of own_address l.fn.file) l.frames (left_of l.capture)

abbrev pub decreases-packets : goal.decreases-packets
decreases-packets l = calls_left l.capture
