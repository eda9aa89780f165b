use Rattle.em_pcap.specs.Capture.{left_of}
use Rattle.em_pcap.specs.Frame.{frame_of}
use Rattle.em_pcap.specs.Reading.{reading_of}
use Rattle.em_c.specs.Pcap.{own_address}
use Rattle.em_c.proofs.PcapLaws.{ReadSo-more}
use Rattle.em_c.proofs.captured.Frames.read.Goals as goal

pub packets-preserved : goal.packets-preserved
packets-preserved c =
    let more = rw c.if-not-add.false at c.add.ensures in
    ReadSo-more (reading_of own_address c.args.file.now) c.packets.frames c.add.new.self (left_of c.packets.capture)
    (left_of c.next_packet.new.self) (frame_of c.in-Some-Ok.packet) c.packets.invariant (rw c.in-Some-Ok.field-0-is at
    c.in-Some-Ok.ensures.next) more.0 more.1
