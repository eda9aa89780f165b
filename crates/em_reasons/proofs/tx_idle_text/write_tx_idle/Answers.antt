use Rattle.em_reasons.proofs.tx_idle_text.write_tx_idle.Goals as goal

pub returns-in-NoRing : goal.returns-in-NoRing
returns-in-NoRing g c = record { writes = rw c.in-NoRing.is c.write_whole-in-NoRing.ensures.writes }

pub returns-in-Empty : goal.returns-in-Empty
returns-in-Empty g c = record { writes = rw c.in-Empty.is c.write_empty.ensures.writes }

pub returns-in-LinkDown : goal.returns-in-LinkDown
returns-in-LinkDown g c = record { writes = rw c.in-LinkDown.is c.write_whole-in-LinkDown.ensures.writes }
