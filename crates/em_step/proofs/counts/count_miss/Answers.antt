use Rattle.em_step.proofs.counts.count_miss.Goals as goal

pub returns-clause-reverses : goal.returns-clause-reverses
returns-clause-reverses c =
    c.count_buffer.ensures.reverses _
    (c.raise_into.ensures.reverses _
    (c.count_into.ensures.reverses _ c.count_arrived-undo.ensures.reverses))
