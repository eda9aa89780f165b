use Rattle.std.proofs.Common.{refl, ◌++◌}
use Rattle.em_text.specs.Writer.{hex_text}
use Rattle.em_text.proofs.WritingLemmas.{WroteFront-more, WroteFront-none, Writes-more}
use Rattle.em_frames.proofs.arrivals.write_both.Goals as goal

pub returns : goal.returns
returns g c =
    let front = hex_text c.args.front.now in
    let behind = hex_text c.args.behind.now in
    let wrote-0 = WroteFront-none (g.W.Write.contents c.args.writer.now) (front ++ behind) in
    let wrote-1 = WroteFront-more front wrote-0 refl c.in_ok-write_octets.ensures.writes in
    record {
      writes = Writes-more _ _ _ _ wrote-1.front behind _ wrote-1.written c.write_octets-2.ensures.writes wrote-1.whole;
    }
