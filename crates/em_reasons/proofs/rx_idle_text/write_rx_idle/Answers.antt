use Rattle.em_reasons.proofs.rx_idle_text.write_rx_idle.Goals as goal

pub returns-in-NoRing : goal.returns-in-NoRing
returns-in-NoRing g c = record { writes = rw c.in-NoRing.is c.write_whole-in-NoRing.ensures.writes }

pub returns-in-Empty : goal.returns-in-Empty
returns-in-Empty g c = record { writes = rw c.in-Empty.is c.write_empty.ensures.writes }
