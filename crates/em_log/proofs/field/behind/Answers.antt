use Rattle.em_text.specs.Words.{words_of}
use Rattle.em_log.proofs.WordLemmas.{drop_one_more}
use Rattle.em_log.proofs.field.behind.Goals as goal

pub loop-skipped-preserved : goal.loop-skipped-preserved
loop-skipped-preserved c =
    drop_one_more (λ word. word.now) (words_of c.args.words.0.now) (words_of c.loop-skipped.rest.0.now)
    (words_of c.next.new.self.0.now) c.loop-skipped.skipped c.next.result c.loop-skipped.invariant c.next.ensures.steps
