use Rattle.std.proofs.Common.{refl}
use Rattle.std.specs.Prelude.{codes}
use Rattle.em_text.proofs.WritingLemmas.{Writes-more}
use Rattle.em_json.specs.Strings.{string_text}
use Rattle.em_json.proofs.strings.write_next.Goals as goal

pub returns : goal.returns
returns g c = record {
  writes = Writes-more _ _ _ c.write_string.result (codes ",") (string_text c.args.line.now) _
      c.in_ok-write_whole.ensures.writes c.write_string.ensures.writes refl;
}
