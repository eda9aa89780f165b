use Rattle.std.proofs.Common.{length, refl}
use Rattle.em_debugger.specs.Performing.{AnswersNext, ShowsSteps, fault_text, performed, unperformed}
use Rattle.em_debugger.proofs.TextLaws.{OnOk-behind, OnOk-written}
use Rattle.em_debugger.proofs.debugger.Debugger.perform_answered.Goals as goal

pub returns-in_ok-write_answered-in-Ok-Some : goal.returns-in_ok-write_answered-in-Ok-Some
returns-in_ok-write_answered-in-Ok-Some g c =
    let old = c.args.self.now in
    let between = c.perform_next.new.self in
    let new = c.show_steps.new.self in
    let p = c.in-Ok-Some.performed in
    let answered = c.in_ok-write_answered-in-Ok-Some.ensures.ok in
    let lines = length old.tape.lines in
    record {
      ok = OnOk-behind _ _ _ c.show_steps.result answered.0 (ShowsSteps lines between new) (AnswersNext old new)
          answered.1
          (λ t h. performed between p answered.0 t (rw c.in-Ok-Some.field-0-is at c.in-Ok-Some.ensures.some) answered.2 h
          refl) (rw c.len-lines.ensures.len at c.show_steps.ensures.ok);
    }

pub returns-in-Err : goal.returns-in-Err
returns-in-Err g c = record {
  ok = OnOk-written _ _ _ (fault_text c.in-Err.fault) (AnswersNext c.args.self.now c.perform_next.new.self)
      c.write_fault.ensures.writes (unperformed c.in-Err.fault c.in-Err.ensures.only refl c.in-Err.ensures.err);
}
