use Rattle.em_text.specs.Words.{words_of}
use Rattle.em_line.proofs.PlanLemmas.{Builds}
use Rattle.em_line.proofs.plan.made_of.Given as goal

abbrev pub invariant-loop-word : goal.invariant-loop-word
invariant-loop-word l =
    Builds (words_of l.fn.words.0.now) (words_of l.word-iterator.0.now) l.made.items l.turns.items
