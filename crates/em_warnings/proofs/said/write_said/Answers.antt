use Rattle.em_warnings.proofs.said.write_said.Goals as goal

pub returns-in-TailPastRing : goal.returns-in-TailPastRing
returns-in-TailPastRing g c = record {
  writes = rw (c.in-TailPastRing.is, ← c.from.ensures, ← c.from-in-TailPastRing.ensures)
      c.write_text-in-TailPastRing.ensures.writes;
}

pub returns-in-InterruptsBeforeRings : goal.returns-in-InterruptsBeforeRings
returns-in-InterruptsBeforeRings g c = record {
  writes = rw c.in-InterruptsBeforeRings.is c.write_text-in-InterruptsBeforeRings.ensures.writes;
}

pub returns-in-ReadAgain : goal.returns-in-ReadAgain
returns-in-ReadAgain g c = record {
  writes = rw c.in-ReadAgain.is c.write_text-in-ReadAgain.ensures.writes;
}

pub returns-in-BuffersOverlap : goal.returns-in-BuffersOverlap
returns-in-BuffersOverlap g c = record {
  writes = rw (c.in-BuffersOverlap.is, ← c.from-in-BuffersOverlap.ensures) c.write_text-in-BuffersOverlap.ensures.writes;
}

pub returns-in-TailPastHead : goal.returns-in-TailPastHead
returns-in-TailPastHead g c = record {
  writes = rw (c.in-TailPastHead.is, ← c.from-in-TailPastHead.ensures, ← c.from-in-TailPastHead-2.ensures)
      c.write_text-in-TailPastHead.ensures.writes;
}

pub returns-in-WrittenWhileOwned : goal.returns-in-WrittenWhileOwned
returns-in-WrittenWhileOwned g c = record {
  writes = rw (c.in-WrittenWhileOwned.is, ← c.from-in-WrittenWhileOwned.ensures)
      c.write_text-in-WrittenWhileOwned.ensures.writes;
}
