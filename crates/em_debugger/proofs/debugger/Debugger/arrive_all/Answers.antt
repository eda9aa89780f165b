use Rattle.std.proofs.Common.{◌≡◌, ◌∙◌, ap, refl}
use Rattle.std.specs.Prelude.{false, nat_lt}
use Rattle.em_turn.specs.Planned.{lists}
use Rattle.em_debugger.specs.Files.{BeginsInstead}
use Rattle.em_debugger.specs.Offers.{ArrivesAll, arrive, offered, offered_script}
use Rattle.em_debugger.proofs.TextLaws.{OnOk-told}
use Rattle.em_debugger.proofs.debugger.Debugger.arrive_all.Goals as goal

pub returns : goal.returns
returns g c =
    let old = c.args.self.now in
    let between = record old { offered = c.clear.new.self } in
    let new = c.begin_instead.new.self in
    let script = offered_script (nat_lt 0 old.engines) (offered old) in
    let text : c.as_slice.result.now ≡ script =
    c.as_slice.ensures.value ∙ (rw (c.new-script.ensures.items, c.has_engines.ensures) at c.in_ok-write_script.ensures.ok) in
    record {
      ok = OnOk-told _ _ c.begin_instead.result (BeginsInstead false between new script) (ArrivesAll old new)
          (λ t h. arrive between (ap lists c.clear.ensures.items) refl h) (rw text at c.begin_instead.ensures.ok);
    }
