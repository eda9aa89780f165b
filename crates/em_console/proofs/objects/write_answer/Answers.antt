use Rattle.std.proofs.Common.{refl}
use Rattle.em_text.proofs.WritingLemmas.{WroteFront-more, WroteFront-none}
use Rattle.em_console.specs.Objects.{answer_text, round_text, status_text}
use Rattle.em_console.proofs.ObjectLaws.{OnOk-onto}
use Rattle.em_console.proofs.objects.write_answer.Goals as goal

pub returns : goal.returns
returns g c =
    let wrote-0 = WroteFront-none (g.W.Write.contents c.args.writer.now)
    (answer_text c.args.line.now c.args.plain.now c.args.became c.args.standing c.args.source.now) in
    let wrote-1 = WroteFront-more (round_text c.args.line.now c.args.plain.now) wrote-0 refl c.in_ok-write_round.ensures.ok in
    let wrote-2 = WroteFront-more (status_text c.args.became) wrote-1 refl c.in_ok-write_status.ensures.writes in
    record {
      ok = OnOk-onto _ _ _ c.write_standing.result wrote-2.front _ _ wrote-2.written c.write_standing.ensures.ok wrote-2.whole;
    }
