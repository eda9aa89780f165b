use Rattle.em_reasons.proofs.dropped_text.write_long.Goals as goal

pub returns : goal.returns
returns g c = record { writes = rw c.most_text.ensures at c.write_text.ensures.writes }
