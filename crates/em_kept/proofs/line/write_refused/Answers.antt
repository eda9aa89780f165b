use Rattle.std.proofs.lemmas.Result.{MatchResult-from_err}
use Rattle.em_text.proofs.WritingLemmas.{Writes-more, WritesPart-front}
use Rattle.em_step.specs.Event.{plain}
use Rattle.em_kept.specs.Source as sources
use Rattle.em_kept.specs.Kept.{behind_text, refusal_words, refused_words}
use Rattle.em_kept.proofs.Texts.{text_parts}
use Rattle.em_kept.proofs.line.write_refused.Goals as goal

pub returns-in_err-write_refused_event : goal.returns-in_err-write_refused_event
returns-in_err-write_refused_event g c = record {
  writes = MatchResult-from_err _ _ _ c.from_residual.ensures.0 (λ _.
      WritesPart-front (behind_text (refusal_words c.args.refusal) (sources.plain c.args.source)) c.in_err-write_refused_event.ensures.writes (text_parts (refused_words (plain c.args.event) c.args.refusal) (refusal_words c.args.refusal) (sources.plain c.args.source)));
}

pub returns : goal.returns
returns g c = record {
  writes = Writes-more _ _ _ _ (refused_words (plain c.args.event) c.args.refusal) (behind_text (refusal_words c.args.refusal) (sources.plain c.args.source)) _
      c.in_ok-write_refused_event.ensures.writes c.write_why.ensures.writes (text_parts (refused_words (plain c.args.event) c.args.refusal) (refusal_words c.args.refusal) (sources.plain c.args.source));
}
