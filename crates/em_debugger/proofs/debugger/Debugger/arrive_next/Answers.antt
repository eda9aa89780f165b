use Rattle.std.proofs.Common.{◌∙◌, [], ap, refl, sym}
use Rattle.em_turn.specs.Planned.{lists}
use Rattle.em_debugger.specs.Offers.{ArrivesNext, arrives, none_left, none_left_text}
use Rattle.em_debugger.specs.Performing.{AnswersNew}
use Rattle.em_debugger.proofs.TextLaws.{OnOk-told, OnOk-written}
use Rattle.em_debugger.proofs.debugger.Debugger.arrive_next.Goals as goal

pub returns-in-Some : goal.returns-in-Some
returns-in-Some g c =
    let old = c.args.self.now in
    let between = record old { offered = c.pop_front.new.self } in
    let new = c.perform_new.new.self in
    let line = c.in-Some.line.items in
    record {
      ok = OnOk-told _ _ c.perform_new.result (AnswersNew between new line []) (ArrivesNext old new)
          (λ t h. arrives line between (ap lists c.in-Some.ensures.items) refl h)
          (rw c.as_slice.ensures.value at c.perform_new.ensures.ok);
    }

pub returns-in-None : goal.returns-in-None
returns-in-None g c =
    let old = c.args.self.now in
    let new = record old { offered = c.pop_front.new.self } in
    record {
      ok = OnOk-written _ _ _ none_left_text (ArrivesNext old new) c.write_none_left.ensures.writes
          (none_left (record { none = sym old.offered.ok.0 ∙ c.in-None.ensures.cases.0; stays = refl; still = sym c.in-None.ensures.items }) refl);
    }
