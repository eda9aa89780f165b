use Rattle.em_debugger.proofs.TextLaws.{Writes-below}
use Rattle.em_debugger.proofs.offers.write_padded.Goals as goal

pub returns-then-padded-gt0 : goal.returns-then-padded-gt0
returns-then-padded-gt0 g c = record {
  writes = Writes-below _ _ _ 0 c.args.padded _ _ c.if-padded-gt0.true c.write_number.ensures.writes;
}
