use Rattle.em_step.proofs.counts.count_frame.Goals as goal

pub returns-clause-reverses : goal.returns-clause-reverses
returns-clause-reverses c =
    c.count_buffer.ensures.reverses _
    (c.count_kind.ensures.reverses _
    (c.count_sizes.ensures.reverses _ c.count_arrived-undo.ensures.reverses))
