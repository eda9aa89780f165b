use Rattle.em_reasons.proofs.dropped_text.write_group.Goals as goal

pub returns : goal.returns
returns g c =
    let by_word = rw c.word_of.ensures.word at c.write_text.ensures.writes in
    record { writes = rw c.bit_of.ensures.bit at by_word }
