use Rattle.std.proofs.Common.{codes, refl}
use Rattle.std.proofs.lemmas.Result.{MatchResult-from_err}
use Rattle.em_text.proofs.WritingLemmas.{Writes-more, WritesPart-front}
use Rattle.em_prompt.specs.Kept.{kept_text}
use Rattle.em_prompt.proofs.bench_line.write_spaced.Goals as goal

pub returns-in_err-write_whole : goal.returns-in_err-write_whole
returns-in_err-write_whole g c = record {
  writes = MatchResult-from_err _ _ _ c.from_residual.ensures.0 (λ _.
      WritesPart-front (kept_text c.args.word) c.in_err-write_whole.ensures.writes refl);
}

pub returns : goal.returns
returns g c = record {
  writes = Writes-more _ _ _ _ (codes " ") (kept_text c.args.word) _
      c.in_ok-write_whole.ensures.writes c.write_kept.ensures.writes refl;
}
