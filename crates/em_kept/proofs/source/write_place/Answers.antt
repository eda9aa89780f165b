use Rattle.std.proofs.Common.{refl}
use Rattle.std.proofs.lemmas.Result.{MatchResult-from_err}
use Rattle.em_text.proofs.WritingLemmas.{Writes-more, WritesPart-front}
use Rattle.std.specs.Prelude.{codes}
use Rattle.em_kept.specs.Source.{last_of, named_text}
use Rattle.em_kept.proofs.source.write_place.Goals as goal

pub returns-in_err-write_whole : goal.returns-in_err-write_whole
returns-in_err-write_whole g c = record {
  writes = MatchResult-from_err _ _ _ c.from_residual.ensures.0 (λ _.
      WritesPart-front (named_text (last_of c.args.file.now) c.args.line) c.in_err-write_whole.ensures.writes (refl));
}

pub returns : goal.returns
returns g c = record {
  writes = Writes-more _ _ _ _ (codes " @") (named_text (last_of c.args.file.now) c.args.line) _
      c.in_ok-write_whole.ensures.writes (rw c.last_of.ensures at c.write_named.ensures.writes) (refl);
}
