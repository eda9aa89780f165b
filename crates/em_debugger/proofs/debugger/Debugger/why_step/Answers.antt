use Rattle.em_debugger.specs.WhyNow.{TellsTried, TellsWhyStep, WouldCome, step_of, tried}
use Rattle.em_debugger.proofs.TextLaws.{OnOk-told}
use Rattle.em_debugger.proofs.debugger.Debugger.why_step.Goals as goal

pub returns-in-Ok : goal.returns-in-Ok
returns-in-Ok g c =
    let d = c.args.self.now in
    let side = c.args.side in
    let came = c.in-Ok.came in
    let comes : WouldCome d.tape.session.machine.present (step_of side) came
    = rw (c.machine.ensures.value, c.step_of.ensures) at c.in-Ok.ensures in
    record {
      ok = OnOk-told _ _ c.why_tried.result (TellsTried d side came) (TellsWhyStep d side)
          (λ t h. tried (record { came = came; comes = comes; tells = h })) c.why_tried.ensures.ok;
    }
