use Rattle.std.proofs.Common.{◌∙◌}
use Rattle.em_recording.proofs.was.write_kind.Goals as goal

pub returns-in-Poke : goal.returns-in-Poke
returns-in-Poke g c = record { writes = rw c.in-Poke.is c.write_text.ensures.writes }

pub returns-in-Dropped : goal.returns-in-Dropped
returns-in-Dropped g c =
    let why = c.as_bytes.ensures.value ∙ c.reason_name.ensures in
    record { writes = rw c.in-Dropped.is (rw why at c.write_arrival-in-Dropped.ensures.writes) }

pub returns-in-LinkUp : goal.returns-in-LinkUp
returns-in-LinkUp g c = record { writes = rw c.in-LinkUp.is c.write_whole.ensures.writes }

pub returns-in-LinkDown : goal.returns-in-LinkDown
returns-in-LinkDown g c = record { writes = rw c.in-LinkDown.is c.write_whole-in-LinkDown.ensures.writes }

pub returns-in-ReceiveIdle : goal.returns-in-ReceiveIdle
returns-in-ReceiveIdle g c = record { writes = rw c.in-ReceiveIdle.is c.write_whole-in-ReceiveIdle.ensures.writes }

pub returns-in-Wrote : goal.returns-in-Wrote
returns-in-Wrote g c = record { writes = rw c.in-Wrote.is c.write_step.ensures.writes }

pub returns-in-TransmitIdle : goal.returns-in-TransmitIdle
returns-in-TransmitIdle g c = record { writes = rw c.in-TransmitIdle.is c.write_whole-in-TransmitIdle.ensures.writes }

pub returns-in-Fetched : goal.returns-in-Fetched
returns-in-Fetched g c = record { writes = rw c.in-Fetched.is c.write_step-in-Fetched.ensures.writes }

pub returns-in-Sent : goal.returns-in-Sent
returns-in-Sent g c = record { writes = rw c.in-Sent.is c.write_sent.ensures.writes }
