use Rattle.std.proofs.Common.{refl}
use Rattle.em_debugger.specs.Performing.{AnswersAdded, AnswersNext, dropped_text}
use Rattle.em_debugger.proofs.TextLaws.{OnOk-behind}
use Rattle.em_debugger.proofs.debugger.Debugger.perform_added.Goals as goal

pub returns : goal.returns
returns g c =
    let old = c.args.self.now in
    let new = c.perform_answered.new.self in
    record {
      ok = OnOk-behind _ _ _ c.perform_answered.result (dropped_text c.args.dropped) (AnswersNext old new)
          (AnswersAdded old new c.args.dropped) c.in_ok-write_dropped.ensures.writes
          (λ t next. record { answer = t; next = next; said = refl }) c.perform_answered.ensures.ok;
    }
