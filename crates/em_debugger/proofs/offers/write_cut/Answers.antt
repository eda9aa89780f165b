use Rattle.em_debugger.proofs.TextLaws.{Writes-below}
use Rattle.em_debugger.proofs.offers.write_cut.Goals as goal

pub returns-then-cut-gt0 : goal.returns-then-cut-gt0
returns-then-cut-gt0 g c = record {
  writes = Writes-below _ _ _ 0 c.args.cut _ _ c.if-cut-gt0.true c.write_number.ensures.writes;
}
