use Rattle.std.proofs.Common.{refl}
use Rattle.std.proofs.lemmas.Result.{MatchResult-from_err}
use Rattle.em_text.proofs.WritingLemmas.{Writes-more, WritesPart-front}
use Rattle.std.specs.Prelude.{codes}
use Rattle.em_step.specs.Event.{plain}
use Rattle.em_kept.specs.Kept.{told_words}
use Rattle.em_kept.proofs.line.write_comment.Goals as goal

pub returns-in_err-write_whole : goal.returns-in_err-write_whole
returns-in_err-write_whole g c = record {
  writes = MatchResult-from_err _ _ _ c.from_residual.ensures.0 (λ _.
      WritesPart-front (told_words (plain c.args.event)) c.in_err-write_whole.ensures.writes (refl));
}

pub returns : goal.returns
returns g c = record {
  writes = Writes-more _ _ _ _ (codes "# ") (told_words (plain c.args.event)) _
      c.in_ok-write_whole.ensures.writes c.write_told.ensures.writes (refl);
}
