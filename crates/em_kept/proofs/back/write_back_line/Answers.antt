use Rattle.std.proofs.lemmas.Result.{MatchResult-from_err}
use Rattle.em_text.proofs.WritingLemmas.{Writes-more, WritesPart-front}
use Rattle.std.proofs.Common.{◌∙◌, sym, append_assoc}
use Rattle.std.specs.Prelude.{codes}
use Rattle.em_kept.specs.Source.{end_text, plain}
use Rattle.em_kept.specs.Kept.{back_words, expected, numbers_behind}
use Rattle.em_kept.proofs.Texts.{text_parts}
use Rattle.em_kept.proofs.back.write_back_line.Goals as goal

pub returns-in_err-write_numbers : goal.returns-in_err-write_numbers
returns-in_err-write_numbers g c = record {
  writes = MatchResult-from_err _ _ _ c.from_residual.ensures.0 (λ _.
      WritesPart-front (end_text (plain c.args.source)) c.in_err-write_numbers.ensures.writes ((text_parts (back_words c.args.asked) (back_words c.args.taken) (plain c.args.source)) ∙ sym (append_assoc (back_words c.args.asked) (expected (back_words c.args.taken)) (end_text (plain c.args.source)))));
}

pub returns : goal.returns
returns g c = record {
  writes = Writes-more _ _ _ _ (numbers_behind (codes "back ") c.args.asked (codes " =back ") c.args.taken) (end_text (plain c.args.source)) _
      c.in_ok-write_numbers.ensures.writes c.write_end.ensures.writes ((text_parts (back_words c.args.asked) (back_words c.args.taken) (plain c.args.source)) ∙ sym (append_assoc (back_words c.args.asked) (expected (back_words c.args.taken)) (end_text (plain c.args.source))));
}
