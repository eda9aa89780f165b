use Rattle.em_noted.proofs.note.write_note.Goals as goal

pub returns-in-Fetched : goal.returns-in-Fetched
returns-in-Fetched g c = record { writes = rw c.in-Fetched.is c.write_text-in-Fetched.ensures.writes }
