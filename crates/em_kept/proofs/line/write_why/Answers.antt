use Rattle.std.proofs.Common.{refl}
use Rattle.std.proofs.lemmas.Result.{MatchResult-from_err}
use Rattle.em_text.proofs.WritingLemmas.{Writes-more, WritesPart-front}
use Rattle.em_kept.specs.Source as sources
use Rattle.em_kept.specs.Kept.{expected, refusal_words}
use Rattle.em_kept.proofs.line.write_why.Goals as goal

pub returns-in_err-write_refusal : goal.returns-in_err-write_refusal
returns-in_err-write_refusal g c = record {
  writes = MatchResult-from_err _ _ _ c.from_residual.ensures.0 (λ _.
      WritesPart-front (sources.end_text (sources.plain c.args.source)) c.in_err-write_refusal.ensures.writes (refl));
}

pub returns : goal.returns
returns g c = record {
  writes = Writes-more _ _ _ _ (expected (refusal_words c.args.refusal)) (sources.end_text (sources.plain c.args.source)) _
      c.in_ok-write_refusal.ensures.writes c.write_end.ensures.writes (refl);
}
