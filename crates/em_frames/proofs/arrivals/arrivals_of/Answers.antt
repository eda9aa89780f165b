use Rattle.em_pcap.specs.Capture.{left_of}
use Rattle.em_pcap.specs.Frame.{frame_of}
use Rattle.em_pcap.specs.Reading.{reading_of}
use Rattle.em_frames.proofs.ArrivalLaws.{ReadSo-none, ReadSo-more}
use Rattle.em_frames.proofs.arrivals.arrivals_of.Goals as goal

pub packets-init : goal.packets-init
packets-init c =
    let none = c.none-arrivals.ensures in
    rw c.new-capture.ensures (ReadSo-none (reading_of c.args.own c.args.file.now) c.none-arrivals.result none.0 none.1.0 none.1.1.0 none.1.1.1)

pub packets-preserved : goal.packets-preserved
packets-preserved c =
    let more = rw c.if-not-add.false at c.add.ensures in
    ReadSo-more (reading_of c.args.own c.args.file.now) c.packets.arrivals c.add.new.self (left_of c.packets.capture)
    (left_of c.next_packet.new.self) (frame_of c.in-Some-Ok.packet) c.packets.invariant (rw c.in-Some-Ok.field-0-is at c.in-Some-Ok.ensures.next)
    more.0 more.1.0 more.1.1.0 more.1.1.1
