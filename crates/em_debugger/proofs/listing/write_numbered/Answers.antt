use Rattle.std.proofs.Common.{refl}
use Rattle.em_text.proofs.WritingLemmas.{Writes-more}
use Rattle.em_debugger.specs.Listing.{numbers_text}
use Rattle.em_debugger.proofs.listing.write_numbered.Goals as goal

pub returns : goal.returns
returns g c = record {
  writes = Writes-more _ _ _ _ (numbers_text c.args.number) c.args.line.now _
      c.in_ok-write_number_column.ensures.writes c.write_whole.ensures.writes refl;
}
