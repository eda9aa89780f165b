use Rattle.std.proofs.Common.{◌≡◌, ◌++◌, ◌∙◌, codes, ap, refl, subst}
use Rattle.std.specs.Option.{option_map}
use Rattle.em_step.specs.Event.{plain}
use Rattle.em_debugger.specs.Debugger.{told}
use Rattle.em_debugger.specs.Why.{TellsLooks, TellsReason, TellsWhyAt}
use Rattle.em_debugger.specs.Reading.{event_said}
use Rattle.em_debugger.proofs.ReadingLaws.{looked_undone}
use Rattle.em_debugger.proofs.TextLaws.{OnOk-behind}
use Rattle.em_debugger.proofs.debugger.Debugger.why_at.Goals as goal

pub returns-in-Ok-looked_at : goal.returns-in-Ok-looked_at
returns-in-Ok-looked_at g c =
    let d = c.args.self.now in
    let tape = c.args.tape.now in
    let line = c.args.line in
    let is : c.as_slice-answer.result.now ≡ told line d ++ codes "\n" =
    c.as_slice-answer.ensures.value ∙ (rw c.new-answer.ensures.items at c.in_ok-write_pieces.ensures.writes)
    ∙ ap (λ t. t ++ codes "\n") c.of.ensures in
    let said = c.in_ok-write_reason.ensures.ok in
    let seen = c.in-Ok-looked_at.looks.items in
    let looked =
    looked_undone c.machine.result.now.present (event_said line d.tape) (option_map plain c.event_read-event.result)
    c.event-came.result seen (c.event_read-event.ensures ∙ c.in-Ok.ensures) c.in-Ok-looked_at.ensures in
    record {
      ok = OnOk-behind _ _ _ c.write_looks.result said.0 (TellsLooks d tape seen) (TellsWhyAt d tape line)
          said.1 (λ t h. record {
            reason = said.0;
            because = subst (λ a. TellsReason d tape line a said.0) is said.2;
            looks = seen;
            looked = rw (c.machine.ensures.value, c.event-came.ensures, c.of-2.ensures) at looked;
            rest = t;
            tells = h;
            said = refl;
          }) (rw c.as_slice.ensures.value at c.write_looks.ensures.ok);
    }
