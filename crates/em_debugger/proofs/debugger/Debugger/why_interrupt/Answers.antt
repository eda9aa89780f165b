use Rattle.std.proofs.Common.{refl}
use Rattle.em_debugger.specs.Why.{TellsLooks}
use Rattle.em_debugger.specs.WhyNow.{TellsWhyInterrupt, line_looks, line_said}
use Rattle.em_debugger.proofs.TextLaws.{OnOk-behind}
use Rattle.em_debugger.proofs.WhyLaws.{line_told}
use Rattle.em_debugger.proofs.debugger.Debugger.why_interrupt.Goals as goal

pub returns : goal.returns
returns g c =
    let d = c.args.self.now in
    record {
      ok = OnOk-behind _ _ _ c.write_looks.result (line_said d.tape.session.machine.present) (TellsLooks d d.tape line_looks)
          (TellsWhyInterrupt d) (rw c.machine.ensures.value at c.in_ok-write_line_said.ensures.writes)
          (λ t h. line_told d line_looks t refl h)
          (rw c.line_looks.ensures at c.write_looks.ensures.ok);
    }
