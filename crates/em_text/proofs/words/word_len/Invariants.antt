use Rattle.std.proofs.Common.{◌-◌, length}
use Rattle.em_text.proofs.WordsLemmas.{HasNoBlank}
use Rattle.em_text.proofs.words.word_len.Given as goal

abbrev pub invariant-loop-len : goal.invariant-loop-len
invariant-loop-len l = HasNoBlank l.line l.len

abbrev pub decreases-loop-len : goal.decreases-loop-len
decreases-loop-len l = length l.line - l.len

abbrev pub invariant-loop-len-2 : goal.invariant-loop-len-2
invariant-loop-len-2 l = HasNoBlank l.line l.len

abbrev pub decreases-loop-len-2 : goal.decreases-loop-len-2
decreases-loop-len-2 l = length l.line - l.len
