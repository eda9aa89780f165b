use Rattle.std.proofs.Common.{◌≡◌, drop}
use Rattle.em_text.specs.Words.{words_of}
use Rattle.em_log.proofs.field.behind.Given as goal

abbrev pub invariant-loop-skipped : goal.invariant-loop-skipped
invariant-loop-skipped l = words_of l.rest.0.now ≡ drop l.skipped (words_of l.fn.words.0.now)
