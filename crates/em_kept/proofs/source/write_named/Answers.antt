use Rattle.std.proofs.Common.{refl}
use Rattle.std.proofs.lemmas.Result.{MatchResult-from_err}
use Rattle.em_text.proofs.WritingLemmas.{Writes-more, WritesPart-front}
use Rattle.em_kept.specs.Source.{line_number_text, shown}
use Rattle.em_kept.proofs.source.write_named.Goals as goal

pub returns-in_err-write_name : goal.returns-in_err-write_name
returns-in_err-write_name g c = record {
  writes = MatchResult-from_err _ _ _ c.from_residual.ensures.0 (λ _.
      WritesPart-front (line_number_text c.args.line) c.in_err-write_name.ensures.writes (refl));
}

pub returns : goal.returns
returns g c = record {
  writes = Writes-more _ _ _ _ (shown c.args.name.now) (line_number_text c.args.line) _
      c.in_ok-write_name.ensures.writes (c.write_line_number.ensures.writes) (refl);
}
