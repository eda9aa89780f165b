use Rattle.std.proofs.Common.{refl}
use Rattle.std.proofs.lemmas.Result.{MatchResult-from_err}
use Rattle.em_text.proofs.WritingLemmas.{Writes-more, WritesPart-front}
use Rattle.std.specs.Prelude.{codes}
use Rattle.em_kept.specs.Head.{words_from}
use Rattle.em_kept.proofs.head.write_words_line.Goals as goal

pub returns-in_err-write_first_words : goal.returns-in_err-write_first_words
returns-in_err-write_first_words g c = record {
  writes = MatchResult-from_err _ _ _ c.from_residual.ensures.0 (λ _.
      WritesPart-front (codes "\n") c.in_err-write_first_words.ensures.writes (refl));
}

pub returns : goal.returns
returns g c = record {
  writes = Writes-more _ _ _ _ (words_from c.args.eeprom.now 0 64) (codes "\n") _
      c.in_ok-write_first_words.ensures.writes c.write_whole.ensures.writes (refl);
}
