use Rattle.em_reasons.proofs.refused_text.write_reason.Goals as goal

pub returns-in-Extended : goal.returns-in-Extended
returns-in-Extended g c = record { writes = rw c.in-Extended.is c.write_descriptor-in-Extended.ensures.writes }

pub returns-in-Memory : goal.returns-in-Memory
returns-in-Memory g c = record { writes = rw c.in-Memory.is c.write_whole.ensures.writes }
