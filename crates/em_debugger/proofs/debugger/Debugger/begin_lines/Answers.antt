use Rattle.std.proofs.Common.{refl}
use Rattle.em_debugger.specs.Files.{BeginsLines, loaded_text}
use Rattle.em_debugger.specs.Played.{ran_text}
use Rattle.em_debugger.proofs.TextLaws.{OnOk-written}
use Rattle.em_debugger.proofs.debugger.Debugger.begin_lines.Goals as goal

pub returns-then-step : goal.returns-then-step
returns-then-step g c =
    let d = c.args.self.now in
    record {
      ok = OnOk-written _ _ _ (loaded_text c.args.count) (BeginsLines c.args.step c.args.count d d)
          c.write_loaded.ensures.writes (rw c.if-step.true (refl, refl));
    }

pub returns-else-step : goal.returns-else-step
returns-else-step g c =
    let d = c.args.self.now in
    let new = c.run_all.new.self in
    let ran = c.run_all.ensures in
    record {
      ok = OnOk-written _ _ _ (ran_text c.args.self.now new ran.0 ran.1) (BeginsLines c.args.step c.args.count d new) ran.3
          (rw c.if-step.false (record { played = ran.0; fault = ran.1; plays = ran.2; told = refl }));
    }
