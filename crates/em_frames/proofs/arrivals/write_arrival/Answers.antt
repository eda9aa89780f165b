use Rattle.std.proofs.Common.{refl, ◌++◌}
use Rattle.std.specs.Prelude.{codes}
use Rattle.std.proofs.lemmas.Result.{MatchResult-from_err}
use Rattle.em_text.proofs.WritingLemmas.{WroteFront-more, WroteFront-none, WroteFront-part, Writes-more}
use Rattle.em_text.specs.Writer.{hex_text}
use Rattle.em_pcap.specs.Frame.{frame_of}
use Rattle.em_frames.specs.Arrivals.{arrival_of, is_unpadded, padding_text}
use Rattle.em_frames.proofs.arrivals.write_arrival.Goals as goal

pub returns-in_err-write_whole : goal.returns-in_err-write_whole
returns-in_err-write_whole g c =
    let frame = frame_of c.args.packet.now in
    let behind = hex_text frame.octets ++ padding_text (is_unpadded frame) in
    let wrote-0 = WroteFront-none (g.W.Write.contents c.args.writer.now) (arrival_of frame) in
    record {
      writes = MatchResult-from_err _ _ _ c.from_residual.ensures.0 (λ _.
          WroteFront-part behind wrote-0 refl c.in_err-write_whole.ensures.writes);
    }

pub returns-in_err-write_frame : goal.returns-in_err-write_frame
returns-in_err-write_frame g c =
    let frame = frame_of c.args.packet.now in
    let wrote-0 = WroteFront-none (g.W.Write.contents c.args.writer.now) (arrival_of frame) in
    let wrote-1 = WroteFront-more (codes "arrive ") wrote-0 refl c.in_ok-write_whole.ensures.writes in
    record {
      writes = MatchResult-from_err _ _ _ c.from_residual-in_err-write_frame.ensures.0 (λ _.
          WroteFront-part (padding_text (is_unpadded frame)) wrote-1 refl c.in_err-write_frame.ensures.writes);
    }

pub returns : goal.returns
returns g c =
    let frame = frame_of c.args.packet.now in
    let wrote-0 = WroteFront-none (g.W.Write.contents c.args.writer.now) (arrival_of frame) in
    let wrote-1 = WroteFront-more (codes "arrive ") wrote-0 refl c.in_ok-write_whole.ensures.writes in
    let wrote-2 = WroteFront-more (hex_text frame.octets) wrote-1 refl c.in_ok-write_frame.ensures.writes in
    record {
      writes = Writes-more _ _ _ _ wrote-2.front (padding_text (is_unpadded frame)) _ wrote-2.written
          (rw c.is_unpadded.ensures at c.write_padding.ensures.writes) wrote-2.whole;
    }
