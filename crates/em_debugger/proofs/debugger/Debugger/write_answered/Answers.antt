use Rattle.std.proofs.Common.{◌∙◌, refl}
use Rattle.std.specs.Option.{option_map}
use Rattle.em_step.specs.Event.{plain}
use Rattle.em_debugger.specs.Performing.{AnswersPerformed, behind_text}
use Rattle.em_debugger.specs.Reading.{event_said}
use Rattle.em_debugger.proofs.ReadingLaws.{writes_undone}
use Rattle.em_debugger.proofs.TextLaws.{OnOk-behind-written}
use Rattle.em_debugger.proofs.debugger.Debugger.write_answered.Goals as goal

pub returns : goal.returns
returns g c =
    let d = c.args.self.now in
    let p = c.args.performed in
    let explained =
    writes_undone c.machine-machine.result.now.present (event_said p.line d.tape)
    (option_map plain c.event_read-event.result) c.event-came.result c.as_slice-answer.result.now
    (c.event_read-event.ensures ∙ c.in-Ok.ensures) c.in_ok-write_explained.ensures.ok in
    let said =
    rw (c.machine-machine.ensures.value, c.as_slice-answer.ensures.value, c.event-came.ensures) at explained in
    record {
      ok = OnOk-behind-written _ _ _ c.write_behind.result said.text (behind_text d p.line) (AnswersPerformed d p) said.written
          c.write_behind.ensures.writes (record { explained = said.text; because = said.such; told = refl });
    }
