use Rattle.std.proofs.Common.{refl}
use Rattle.em_debugger.specs.Performing.{AnswersAdded, AnswersNew, added, fault_text, refused}
use Rattle.em_debugger.proofs.TextLaws.{OnOk-told, OnOk-written}
use Rattle.em_debugger.proofs.debugger.Debugger.perform_new.Goals as goal

pub returns-in-Ok : goal.returns-in-Ok
returns-in-Ok g c =
    let between = c.add_typed.new.self in
    let new = c.perform_added.new.self in
    record {
      ok = OnOk-told _ _ c.perform_added.result (AnswersAdded between new c.in-Ok.dropped)
          (AnswersNew c.args.self.now new c.args.text.now c.args.given.now)
          (λ t h. added between c.in-Ok.dropped c.in-Ok.ensures.ok h) c.perform_added.ensures.ok;
    }

pub returns-in-Err : goal.returns-in-Err
returns-in-Err g c = record {
  ok = OnOk-written _ _ _ (fault_text c.in-Err.fault)
      (AnswersNew c.args.self.now c.add_typed.new.self c.args.text.now c.args.given.now) c.write_fault.ensures.writes
      (refused c.in-Err.fault c.in-Err.ensures.only refl c.in-Err.ensures.err);
}
