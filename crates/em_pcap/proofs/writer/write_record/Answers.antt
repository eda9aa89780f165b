use Rattle.std.proofs.Common.{subst, List, ℕ}
use Rattle.em_text.specs.Writer.{Writes}
use Rattle.em_pcap.specs.Writing.{timed}
use Rattle.em_pcap.proofs.WritingLaws.{record_pieces}
use Rattle.em_pcap.proofs.writer.write_record.Goals as goal

pub returns : goal.returns
returns g c =
    let contents = g.W.Write.contents in
    let text = record_pieces _ _ _ (timed c.args.frame) c.to_le_bytes-seconds.ensures c.to_le_bytes-nanoseconds.ensures
    c.to_le_bytes-len.ensures in
    let writes =
    λ (text : List ℕ).
    Writes (contents c.args.writer.now) (contents c.write_pieces.new.writer) c.write_pieces.result text in
    record { writes = subst writes text c.write_pieces.ensures.writes }
