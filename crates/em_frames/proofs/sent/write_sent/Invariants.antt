use Rattle.std.specs.Prelude.{take, ◌++◌}
use Rattle.std.specs.Io.KnownBytes.{Appends}
use Rattle.em_pcap.specs.Writing.{header_text}
use Rattle.em_frames.specs.Sent.{frames_text}
use Rattle.em_frames.proofs.sent.write_sent.Given as goal

-- the header and so many records were written
abbrev pub invariant-loop-index : goal.invariant-loop-index
invariant-loop-index g l =
    Appends (g.W.Write.contents l.fn.writer) (g.W.Write.contents l.writer)
    (header_text ++ frames_text l.times (take l.index l.machine.present.wire))
