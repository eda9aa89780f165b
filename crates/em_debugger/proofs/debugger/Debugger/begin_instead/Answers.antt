use Rattle.std.proofs.Common.{ap}
use Rattle.em_debugger.specs.Files.{BeginsBehind, BeginsInstead, cuts, uncut}
use Rattle.em_debugger.specs.Performing.{fault_text}
use Rattle.em_debugger.proofs.TextLaws.{OnOk-told, OnOk-written}
use Rattle.em_debugger.proofs.debugger.Debugger.begin_instead.Goals as goal

pub returns-in-Ok : goal.returns-in-Ok
returns-in-Ok g c =
    let between = c.cut.new.self in
    let new = c.begin_behind.new.self in
    record {
      ok = OnOk-told _ _ c.begin_behind.result
          (BeginsBehind c.args.step c.in-Ok.dropped between new c.args.script.now)
          (BeginsInstead c.args.step c.args.self.now new c.args.script.now)
          (λ t h. cuts between c.in-Ok.dropped c.in-Ok.ensures.ok h) c.begin_behind.ensures.ok;
    }

pub returns-in-Err : goal.returns-in-Err
returns-in-Err g c = record {
  ok = OnOk-written _ _ _ (fault_text c.in-Err.fault)
      (BeginsInstead c.args.step c.args.self.now c.cut.new.self c.args.script.now) c.write_fault.ensures.writes
      (uncut (ap fault_text c.in-Err.ensures.only) c.in-Err.ensures.err);
}
