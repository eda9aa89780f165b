use Rattle.std.proofs.Common.{arith}
use Rattle.std.proofs.lemmas.Result.{MatchResult-from_err}
use Rattle.em_text.proofs.WritingLemmas.{WroteFront-more, WroteFront-part, WroteFront-all}
use Rattle.em_eeprom.specs.Eeprom.{word_at}
use Rattle.em_kept.specs.Head.{word_digits}
use Rattle.em_kept.proofs.Texts.{words_next, words_none, words_start}
use Rattle.em_kept.proofs.head.write_first_words.Goals as goal

pub loop-at-init : goal.loop-at-init
loop-at-init g c = words_start _ c.args.eeprom.now c.args.count

pub returns-in_err-write_word : goal.returns-in_err-write_word
returns-in_err-write_word g c = record {
  writes = MatchResult-from_err _ _ _ c.from_residual.ensures.0 (λ _.
      WroteFront-part _ c.loop-at.invariant (words_next c.args.eeprom.now c.loop-at.at c.args.count (omega arith)) c.in_err-write_word.ensures.writes);
}

pub loop-at-preserved : goal.loop-at-preserved
loop-at-preserved g c = WroteFront-more (word_digits (word_at c.args.eeprom.now c.loop-at.at)) c.loop-at.invariant (words_next c.args.eeprom.now c.loop-at.at c.args.count (omega arith)) c.in_ok-write_word.ensures.writes

pub returns : goal.returns
returns g c = record { writes = WroteFront-all c.loop-at.invariant (words_none c.args.eeprom.now c.loop-at.at c.args.count (omega arith)) }
