use Rattle.std.proofs.Common.{refl}
use Rattle.std.proofs.lemmas.Result.{MatchResult-from_err}
use Rattle.em_text.proofs.WritingLemmas.{Writes-more, WritesPart-front, WritesPart-more}
use Rattle.em_debugger.proofs.debugger.Debugger.write_played.Goals as goal

pub returns : goal.returns
returns g c = record {
  writes = Writes-more _ _ _ _ _ _ _ c.in_ok-write_whole.ensures.writes
      (Writes-more _ _ _ _ _ _ _ c.in_ok-write_count.ensures.writes c.write_wrong_ones.ensures.writes refl) refl;
}

pub returns-in_err-write_whole : goal.returns-in_err-write_whole
returns-in_err-write_whole g c = record {
  writes = MatchResult-from_err _ _ _ c.from_residual.ensures.0 (λ _.
      WritesPart-front _ c.in_err-write_whole.ensures.writes refl);
}

pub returns-in_err-write_count : goal.returns-in_err-write_count
returns-in_err-write_count g c = record {
  writes = MatchResult-from_err _ _ _ c.from_residual-in_err-write_count.ensures.0 (λ _.
      WritesPart-more _ c.in_ok-write_whole.ensures.writes
      (WritesPart-front _ c.in_err-write_count.ensures.writes refl) refl);
}
