use Rattle.em_debugger.proofs.EffectLaws.{told_seen}
use Rattle.em_debugger.proofs.debugger.Debugger.write_seen.Goals as goal

pub returns : goal.returns
returns g c =
    record {
      ok = told_seen _ _ _ _ c.write_effect.result c.args.self.now c.args.event c.args.seen.now c.args.back c.in-Some.note
          c.machine.result.now c.machine.ensures.value c.in-Some.ensures.tells c.in_ok-write_event.ensures.writes
          c.in_ok-write_whole.ensures.writes c.write_effect.ensures.ok;
    }
