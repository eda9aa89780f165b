use Rattle.em_prompt.specs.Until.{plain}
use Rattle.em_debugger.specs.Stops.{AnswersRun, RunsUntil}
use Rattle.em_debugger.proofs.TextLaws.{OnOk-told}
use Rattle.em_debugger.proofs.debugger.Debugger.run_until.Goals as goal

pub returns : goal.returns
returns g c =
    let old = c.args.self.now in
    let new = c.run_to.new.self in
    record {
      ok = OnOk-told _ _ c.run_to.result (RunsUntil c.stop_of.result old new) (AnswersRun old new (plain c.args.until))
          (λ t h. record { stop = c.stop_of.result; stops = c.stop_of.ensures; runs = h }) c.run_to.ensures.ok;
    }
