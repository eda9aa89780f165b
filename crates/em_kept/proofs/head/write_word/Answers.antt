use Rattle.em_kept.proofs.head.write_word.Goals as goal

pub returns : goal.returns
returns g c = record { writes = rw (c.word_digits.ensures, c.word.ensures.word) at c.write_whole.ensures.writes }
