use Rattle.std.proofs.lemmas.Result.{MatchResult-from_err}
use Rattle.em_text.proofs.WritingLemmas.{WritesPart-among}
use Rattle.em_json.specs.Strings.{octet_text}
use Rattle.em_json.proofs.strings.write_escaped.Goals as goal

pub returns-in_err-write_octet : goal.returns-in_err-write_octet
returns-in_err-write_octet g c = record {
  writes = MatchResult-from_err _ _ _ c.from_residual.ensures.0 (λ _.
      WritesPart-among octet_text c.args.text.now c.loop-octet.octet-index _ c.loop-octet-test.true
      c.loop-octet.invariant c.in_err-write_octet.ensures.writes);
}
