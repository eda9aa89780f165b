use Rattle.std.proofs.Common.{◌≡◌}
use Rattle.em_text.specs.Words.{words_of}
use Rattle.em_log.specs.Stamp.{stamp_in}
use Rattle.em_log.proofs.stamp.printed_stamp.Given as goal

-- the time is that of the words that are left
abbrev pub invariant-loop-word : goal.invariant-loop-word
invariant-loop-word l =
    (goal.iterator-loop-word).can_next l.words × (goal.iterator-loop-word).is_finite l.words
    × (stamp_in (words_of l.fn.line) ≡ stamp_in (words_of l.words.0.now))
