use Rattle.em_debugger.proofs.stops.write_missed.Goals as goal

pub returns-in-Dropped : goal.returns-in-Dropped
returns-in-Dropped g c = record { writes = rw c.in-Dropped.is c.write_whole-in-Dropped.ensures.writes }

pub returns-in-Line : goal.returns-in-Line
returns-in-Line g c = record { writes = rw c.in-Line.is c.write_number.ensures.writes }

pub returns-in-Differs : goal.returns-in-Differs
returns-in-Differs g c = record { writes = rw c.in-Differs.is c.write_whole-in-Differs.ensures.writes }

pub returns-in-Warning : goal.returns-in-Warning
returns-in-Warning g c = record { writes = rw c.in-Warning.is c.write_whole-in-Warning.ensures.writes }
