use Rattle.std.proofs.Common.{◌-◌}
use Rattle.em_text.proofs.WritingLemmas.{WroteFront}
use Rattle.em_kept.specs.Head.{words_from}
use Rattle.em_kept.proofs.head.write_first_words.Given as goal

-- what is still to come
abbrev pub invariant-loop-at : goal.invariant-loop-at
invariant-loop-at g l =
    let contents = g.W.Write.contents in
    WroteFront (contents l.fn.writer) (contents l.writer) (words_from l.eeprom l.at (l.count - l.at)) (words_from l.eeprom 0 l.count)
