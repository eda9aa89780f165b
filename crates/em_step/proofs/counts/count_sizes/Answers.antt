use Rattle.em_step.proofs.counts.count_sizes.Goals as goal

pub returns-clause-reverses : goal.returns-clause-reverses
returns-clause-reverses c = λ base older.
    c.count_into-2.ensures.reverses base (c.count_stored_class.ensures.reverses base (c.count_into.ensures.reverses base older))
