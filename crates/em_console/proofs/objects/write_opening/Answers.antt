use Rattle.std.proofs.Common.{◌++◌, refl}
use Rattle.std.specs.Prelude.{codes}
use Rattle.em_text.proofs.WritingLemmas.{WroteFront-more, WroteFront-none}
use Rattle.em_json.specs.Strings.{strings_text}
use Rattle.em_console.specs.Objects.{field_text, opening_text}
use Rattle.em_console.proofs.ObjectLaws.{OnOk-onto}
use Rattle.em_console.proofs.objects.write_opening.Goals as goal

pub returns : goal.returns
returns g c =
    let wrote-0 = WroteFront-none (g.W.Write.contents c.args.writer.now)
    (opening_text c.args.script.now c.args.plain.now c.args.standing c.args.source.now) in
    let wrote-1 = WroteFront-more (codes "{\"format\":\"bunjelav debugger\",\"version\":1") wrote-0 refl c.in_ok-write_whole.ensures.writes in
    let wrote-2 = WroteFront-more (field_text (codes ",\"script\":") c.args.script.now) wrote-1 refl c.in_ok-write_field.ensures.ok in
    let wrote-3 = WroteFront-more (codes ",\"lines\":" ++ strings_text c.args.plain.now) wrote-2 refl c.in_ok-write_lines.ensures.ok in
    record {
      ok = OnOk-onto _ _ _ c.write_standing.result wrote-3.front _ _ wrote-3.written c.write_standing.ensures.ok wrote-3.whole;
    }
