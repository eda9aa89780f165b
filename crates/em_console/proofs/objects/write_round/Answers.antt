use Rattle.std.proofs.Common.{refl}
use Rattle.std.specs.Prelude.{codes}
use Rattle.em_text.proofs.WritingLemmas.{WroteFront-more, WroteFront-none}
use Rattle.em_json.specs.Strings.{string_text}
use Rattle.em_console.specs.Objects.{round_text}
use Rattle.em_console.proofs.ObjectLaws.{OnOk-onto}
use Rattle.em_console.proofs.objects.write_round.Goals as goal

pub returns : goal.returns
returns g c =
    let wrote-0 = WroteFront-none (g.W.Write.contents c.args.writer.now) (round_text c.args.line.now c.args.plain.now) in
    let wrote-1 = WroteFront-more (codes "{\"command\":") wrote-0 refl c.in_ok-write_whole.ensures.writes in
    let wrote-2 = WroteFront-more (string_text c.args.line.now) wrote-1 refl c.in_ok-write_string.ensures.writes in
    record {
      ok = OnOk-onto _ _ _ c.write_lines.result wrote-2.front _ _ wrote-2.written c.write_lines.ensures.ok wrote-2.whole;
    }
