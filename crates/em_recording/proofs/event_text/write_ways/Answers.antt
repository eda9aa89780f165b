use Rattle.std.proofs.Common.{refl}
use Rattle.std.specs.Prelude.{codes}
use Rattle.em_text.proofs.WritingLemmas.{WroteFront-more, WroteFront-none, Writes-more}
use Rattle.em_recording.specs.EventText.{way_text, ways_text}
use Rattle.em_recording.proofs.event_text.write_ways.Goals as goal

pub returns : goal.returns
returns g c =
    let wrote-0 = WroteFront-none (g.W.Write.contents c.args.writer.now) (ways_text c.args.recorded.now) in
    let wrote-1 = WroteFront-more (way_text (codes ",\"link\":[") c.args.recorded.now.link) wrote-0 refl
    c.in_ok-write_way.ensures.writes in
    record {
      writes = Writes-more _ _ _ _ wrote-1.front (way_text (codes ",\"interrupt\":[") c.args.recorded.now.line) _
          wrote-1.written c.write_way-2.ensures.writes wrote-1.whole;
    }
