use Rattle.std.proofs.lemmas.Result.{MatchResult-from_err}
use Rattle.em_text.proofs.WritingLemmas.{Writes-more, WritesPart-front}
use Rattle.em_step.specs.Event.{plain}
use Rattle.em_kept.specs.Source as sources
use Rattle.em_kept.specs.Kept.{answer_words, behind_text, event_words}
use Rattle.em_kept.proofs.Texts.{text_parts}
use Rattle.em_kept.proofs.line.write_event.Goals as goal

pub returns-in_err-write_said : goal.returns-in_err-write_said
returns-in_err-write_said g c = record {
  writes = MatchResult-from_err _ _ _ c.from_residual.ensures.0 (λ _.
      WritesPart-front (behind_text (answer_words c.args.answer) (sources.plain c.args.source)) c.in_err-write_said.ensures.writes (text_parts (event_words (plain c.args.event)) (answer_words c.args.answer) (sources.plain c.args.source)));
}

pub returns : goal.returns
returns g c = record {
  writes = Writes-more _ _ _ _ (event_words (plain c.args.event)) (behind_text (answer_words c.args.answer) (sources.plain c.args.source)) _
      c.in_ok-write_said.ensures.writes c.write_answered.ensures.writes (text_parts (event_words (plain c.args.event)) (answer_words c.args.answer) (sources.plain c.args.source));
}
