use Rattle.em_debugger.proofs.TextLaws.{Writes-below}
use Rattle.em_debugger.proofs.moves.write_behind.Goals as goal

pub returns-then-here-lines : goal.returns-then-here-lines
returns-then-here-lines g c = record {
  writes = Writes-below _ _ _ c.args.here c.args.lines _ _ c.if-here-lines.true c.write_whole.ensures.writes;
}
