use Rattle.std.proofs.Common.{refl}
use Rattle.std.proofs.lemmas.Result.{MatchResult-from_err}
use Rattle.em_text.proofs.WritingLemmas.{Writes-more, WritesPart-front}
use Rattle.em_prompt.specs.Kept.{kept_text, spaced}
use Rattle.em_prompt.proofs.bench_line.write_two.Goals as goal

pub returns-in_err-write_spaced : goal.returns-in_err-write_spaced
returns-in_err-write_spaced g c = record {
  writes = MatchResult-from_err _ _ _ c.from_residual.ensures.0 (λ _.
      WritesPart-front (spaced (kept_text c.args.second)) c.in_err-write_spaced.ensures.writes refl);
}

pub returns : goal.returns
returns g c = record {
  writes = Writes-more _ _ _ _ (spaced (kept_text c.args.first)) (spaced (kept_text c.args.second)) _
      c.in_ok-write_spaced.ensures.writes c.write_spaced-2.ensures.writes refl;
}
