use Rattle.std.proofs.Common.{refl}
use Rattle.em_debugger.specs.Stops.{RunsUntil, TellsRan, played_text}
use Rattle.em_debugger.proofs.TextLaws.{OnOk-behind}
use Rattle.em_debugger.proofs.debugger.Debugger.run_to.Goals as goal

pub returns : goal.returns
returns g c =
    let old = c.args.self.now in
    let between = c.play_until-lines.new.self in
    let new = c.tell_ran.new.self in
    record {
      ok = OnOk-behind _ _ _ c.tell_ran.result (played_text c.play_until-lines.result.0)
          (TellsRan c.args.stop between new c.play_until-lines.result.1) (RunsUntil c.args.stop old new)
          c.in_ok-write_lines_played.ensures.writes
          (λ t h. record {
            between = between;
            lines = c.play_until-lines.result.0;
            ended = c.play_until-lines.result.1;
            ran = c.play_until-lines.ensures;
            rest = t;
            told = h;
            said = refl;
          }) c.tell_ran.ensures.ok;
    }
