use Rattle.em_kept.proofs.ShownNames.{place_made}
use Rattle.em_kept.proofs.source.write_end.Goals as goal

pub returns-in-Line : goal.returns-in-Line
returns-in-Line g c = record {
  writes = rw (c.in-Line.is, place_made c.in-Line.file.now c.in-Line.line) c.write_place.ensures.writes;
}
