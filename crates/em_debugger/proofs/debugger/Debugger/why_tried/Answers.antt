use Rattle.em_reasons.specs.Undone.{undone_by}
use Rattle.em_reasons.specs.Why.{IsWhyOf}
use Rattle.std.specs.Prelude.{Some}
use Rattle.em_debugger.specs.Why.{TellsLooks}
use Rattle.em_debugger.specs.WhyNow.{TellsTried, step_of, step_text}
use Rattle.em_debugger.proofs.TextLaws.{OnOk-behind}
use Rattle.em_debugger.proofs.WhyLaws.{tried_told}
use Rattle.em_debugger.proofs.debugger.Debugger.why_tried.Goals as goal

pub returns-in-Ok : goal.returns-in-Ok
returns-in-Ok g c =
    let d = c.args.self.now in
    let side = c.args.side in
    let came = c.args.came in
    let why = c.why_of-why.result in
    let looks = c.in-Ok.looks.items in
    let is : IsWhyOf d.tape.session.machine.present (Some (step_of side)) (undone_by came) why
    = rw (c.machine.ensures.value, c.step_of.ensures) at c.why_of-why.ensures in
    record {
      ok = OnOk-behind _ _ _ c.write_looks.result (step_text side why) (TellsLooks d d.tape looks) (TellsTried d side came)
          c.in_ok-write_step.ensures.writes
          (λ t h. tried_told d side came why looks t is c.in-Ok.ensures h)
          (rw c.as_slice.ensures.value at c.write_looks.ensures.ok);
    }
