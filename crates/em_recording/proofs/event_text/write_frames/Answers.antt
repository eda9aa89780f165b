use Rattle.em_recording.proofs.event_text.write_frames.Goals as goal

pub returns-in-Some : goal.returns-in-Some
returns-in-Some g c = record { writes = rw c.in-Some.is c.write_numbers.ensures.writes }
