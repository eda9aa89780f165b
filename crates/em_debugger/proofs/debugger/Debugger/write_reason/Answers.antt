use Rattle.std.proofs.Common.{refl}
use Rattle.std.specs.Option.{option_map}
use Rattle.em_script.specs.Outcome.{event_came}
use Rattle.em_step.specs.Event.{plain}
use Rattle.em_debugger.specs.Debugger.{came}
use Rattle.em_debugger.specs.Reading.{event_said}
use Rattle.em_debugger.specs.Why.{TellsReason, front_text}
use Rattle.em_debugger.proofs.ReadingLaws.{explains_undone}
use Rattle.em_debugger.proofs.TextLaws.{OnOk-such-behind}
use Rattle.em_debugger.proofs.debugger.Debugger.write_reason.Goals as goal

pub returns : goal.returns
returns g c =
    let d = c.args.self.now in
    let tape = c.args.tape.now in
    let line = c.args.line in
    let event = option_map plain c.args.event in
    let answer = c.args.answer.now in
    record {
      ok = OnOk-such-behind _ _ _ c.write_explained.result (front_text d line) _ (TellsReason d tape line answer)
          c.in_ok-write_front.ensures.writes
          (λ t h. record {
            explained = t;
            because = explains_undone tape.session.machine.present (event_said line d.tape) event (event_came (came line d))
                answer t c.requires h;
            said = refl;
          })
          (rw (c.machine.ensures.value, c.event-came.ensures, c.of.ensures) at c.write_explained.ensures.ok);
    }
