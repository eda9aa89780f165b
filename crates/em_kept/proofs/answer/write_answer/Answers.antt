use Rattle.em_kept.proofs.answer.write_answer.Goals as goal

pub returns-in-Fetched : goal.returns-in-Fetched
returns-in-Fetched g c = record {
  writes = rw c.in-Fetched.is (rw c.from-in-Fetched.ensures at c.write_number-in-Fetched.ensures.writes);
}
