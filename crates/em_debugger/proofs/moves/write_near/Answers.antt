use Rattle.em_debugger.proofs.TextLaws.{Writes-below, Writes-not_below}
use Rattle.em_debugger.proofs.moves.write_near.Goals as goal

pub returns-then-here-event : goal.returns-then-here-event
returns-then-here-event g c = record {
  writes = Writes-below _ _ _ c.args.here c.args.event _ _ c.if-here-event.true c.write_whole.ensures.writes;
}

pub returns-then-here-event-2 : goal.returns-then-here-event-2
returns-then-here-event-2 g c = record {
  writes = Writes-not_below _ _ _ c.args.here c.args.event _ _ c.if-here-event.false
      (Writes-below _ _ _ c.args.event c.args.here _ _ c.if-here-event-2.true
      c.write_whole-then-here-event-2.ensures.writes);
}
