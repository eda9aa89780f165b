use Rattle.std.proofs.Common.{refl}
use Rattle.std.proofs.lemmas.Result.{MatchResult-from_err}
use Rattle.em_text.proofs.WritingLemmas.{Writes-more, WritesPart-front}
use Rattle.em_eeprom.specs.Eeprom.{mac_of}
use Rattle.em_kept.specs.Head.{settings_text, words_text}
use Rattle.em_kept.proofs.head.write_head.Goals as goal

pub returns-in_err-write_settings : goal.returns-in_err-write_settings
returns-in_err-write_settings g c = record {
  writes = MatchResult-from_err _ _ _ c.from_residual.ensures.0 (λ _.
      WritesPart-front (words_text c.args.eeprom.now) (rw c.mac.ensures.mac at c.in_err-write_settings.ensures.writes) (refl));
}

pub returns : goal.returns
returns g c = record {
  writes = Writes-more _ _ _ _ (settings_text c.args.profile c.args.base c.args.memory c.args.budget (mac_of c.args.eeprom.now)) (words_text c.args.eeprom.now) _
      (rw c.mac.ensures.mac at c.in_ok-write_settings.ensures.writes) c.write_words.ensures.writes (refl);
}
