use Rattle.std.proofs.Common.{◌++◌, take}
use Rattle.std.specs.List.{flat_map}
use Rattle.std.specs.Io.KnownBytes.{Appends}
use Rattle.em_pcap.specs.Writing.{header_text, record_text, timed}
use Rattle.em_pcap.proofs.writer.write_capture.Given as goal

-- the header and the records so far
abbrev pub invariant-loop-frame : goal.invariant-loop-frame
invariant-loop-frame g l =
    let contents = g.W.Write.contents in
    Appends (contents l.fn.writer) (contents l.writer)
    (header_text ++ flat_map (λ frame. record_text (timed frame)) (take l.frame-index l.frames))
