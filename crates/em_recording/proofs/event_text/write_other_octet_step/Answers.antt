use Rattle.std.proofs.Common.{◌++◌, refl}
use Rattle.std.specs.Prelude.{codes}
use Rattle.em_text.proofs.WritingLemmas.{WroteFront-more, WroteFront-none, Writes-more}
use Rattle.em_recording.specs.EventText.{change_text}
use Rattle.em_recording.proofs.event_text.write_other_octet_step.Goals as goal

pub returns : goal.returns
returns g c =
    let wrote-0 = WroteFront-none (g.W.Write.contents c.args.writer.now) (codes "," ++ change_text c.args.step.now) in
    let wrote-1 = WroteFront-more (codes ",") wrote-0 refl c.in_ok-write_whole.ensures.writes in
    record {
      writes = Writes-more _ _ _ _ wrote-1.front (change_text c.args.step.now) _ wrote-1.written
          c.write_octet_step.ensures.writes wrote-1.whole;
    }
