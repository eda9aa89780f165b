use Rattle.std.proofs.Common.{refl}
use Rattle.std.specs.List.{flat_map}
use Rattle.em_text.proofs.WritingLemmas.{Writes-more}
use Rattle.em_text.specs.Writer.{hex_text}
use Rattle.em_kept.proofs.line.write_octets_behind.Goals as goal

pub returns : goal.returns
returns g c = record {
  writes = Writes-more _ _ _ _ (flat_map (λ piece. piece.now) c.args.words.now) (hex_text c.args.octets.now) _
      c.in_ok-write_pieces.ensures.writes c.write_octets.ensures.writes refl;
}
