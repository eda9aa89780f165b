use Rattle.std.proofs.Common.{refl}
use Rattle.em_debugger.specs.Performing.{AnswersPerformed, ShowsPerformed, heading_text}
use Rattle.em_debugger.proofs.TextLaws.{OnOk-behind}
use Rattle.em_debugger.proofs.debugger.Debugger.write_performed.Goals as goal

pub returns : goal.returns
returns g c =
    let d = c.args.self.now in
    let p = c.args.performed in
    record {
      ok = OnOk-behind _ _ _ c.write_answered.result (heading_text d p.line) (AnswersPerformed d p) (ShowsPerformed d p)
          c.in_ok-write_heading.ensures.writes (λ t h. record { answer = t; answers = h; told = refl })
          c.write_answered.ensures.ok;
    }
