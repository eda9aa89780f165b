use Rattle.std.proofs.Common.{refl}
use Rattle.em_text.proofs.WritingLemmas.{Writes-more}
use Rattle.em_recording.specs.Was.{kind_text, spoken_text}
use Rattle.em_recording.proofs.was.write_was.Goals as goal

pub returns : goal.returns
returns g c = record {
  writes = Writes-more _ _ _ _ (kind_text c.args.note) (spoken_text c.args.note) _ c.in_ok-write_kind.ensures.writes
      c.write_spoken.ensures.writes refl;
}
