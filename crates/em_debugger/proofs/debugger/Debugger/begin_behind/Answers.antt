use Rattle.std.proofs.Common.{refl}
use Rattle.em_debugger.specs.Files.{BeginsBehind, BeginsText}
use Rattle.em_debugger.specs.Performing.{dropped_text}
use Rattle.em_debugger.proofs.TextLaws.{OnOk-behind}
use Rattle.em_debugger.proofs.debugger.Debugger.begin_behind.Goals as goal

pub returns : goal.returns
returns g c =
    let old = c.args.self.now in
    let new = c.begin_text.new.self in
    record {
      ok = OnOk-behind _ _ _ c.begin_text.result (dropped_text c.args.dropped)
          (BeginsText c.args.step old new c.args.script.now)
          (BeginsBehind c.args.step c.args.dropped old new c.args.script.now) c.in_ok-write_dropped.ensures.writes
          (λ t h. record { rest = t; begins = h; said = refl }) c.begin_text.ensures.ok;
    }
