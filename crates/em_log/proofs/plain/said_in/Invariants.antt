use Rattle.std.proofs.Common.{◌≡◌}
use Rattle.em_text.specs.Words.{words_of}
use Rattle.em_log.specs.Plain.{said_in}
use Rattle.em_log.proofs.plain.said_in.Given as goal

-- what is said is said by the words that are left
abbrev pub invariant-loop-word : goal.invariant-loop-word
invariant-loop-word l =
    (goal.iterator-loop-word).can_next l.words × (goal.iterator-loop-word).is_finite l.words
    × (said_in (words_of l.fn.line) ≡ said_in (words_of l.words.0.now))
