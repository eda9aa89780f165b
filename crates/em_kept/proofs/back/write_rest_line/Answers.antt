use Rattle.em_kept.proofs.back.write_rest_line.Goals as goal

pub returns : goal.returns
returns g c = record { writes = rw c.min.ensures at c.write_back_line.ensures.writes }
