use Rattle.em_debugger.specs.Why.{TellsWhyAt, TellsWhyOf, again}
use Rattle.em_debugger.proofs.TextLaws.{OnOk-told}
use Rattle.em_debugger.proofs.debugger.Debugger.why_of.Goals as goal

pub returns-in-Ok : goal.returns-in-Ok
returns-in-Ok g c =
    let d = c.args.self.now in
    let deep = c.in-Ok.deep in
    record {
      ok = OnOk-told _ _ c.why_at-in-Ok.result (TellsWhyAt d deep c.args.line) (TellsWhyOf d c.args.line)
          (λ t h. again deep c.in-Ok.ensures.again h) c.why_at-in-Ok.ensures.ok;
    }
