use Rattle.std.proofs.Common.{Ok, ap, arith}
use Rattle.em_debugger.specs.Performing.{fault_text, none, over, stopped}
use Rattle.em_debugger.proofs.PlayedLaws.{ahead_falls}
use Rattle.em_debugger.proofs.StepsLaws.{ShowedSo-none, ShowedSo-more, ShowedSo-end, ShowedSo-over}
use Rattle.em_debugger.proofs.debugger.Debugger.show_steps.Goals as goal

pub steps-init : goal.steps-init
steps-init g c = ShowedSo-none c.args.lines c.args.self.now (g.W.Write.contents c.args.writer.now)

pub steps-preserved : goal.steps-preserved
steps-preserved g c =
    let wrote = c.in_ok-write_performed-in-Ok-Some.ensures.ok in
    rw c.len-lines.ensures.len (ShowedSo-more c.args.lines c.steps.lines c.args.self.now c.steps.self
    c.perform_next.new.self _ _ _ c.in-Ok-Some.performed wrote.0 c.steps.invariant
    (omega (arith, c.len.ensures.len)) (rw c.in-Ok-Some.field-0-is at c.in-Ok-Some.ensures.some) wrote.2 wrote.1)

pub steps-smaller : goal.steps-smaller
steps-smaller g c =
    ahead_falls c.steps.self c.perform_next.new.self c.in-Ok-Some.performed
    (rw c.in-Ok-Some.field-0-is at c.in-Ok-Some.ensures.some)

pub returns-in-Ok-None : goal.returns-in-Ok-None
returns-in-Ok-None g c =
    let nothing = c.in-Ok-None.ensures.none (ap Ok c.in-Ok-None.field-0-is) in
    record {
      ok = ShowedSo-over c.args.lines c.steps.lines c.args.self.now c.steps.self c.perform_next.new.self _ _
          c.steps.invariant (rw nothing.0 (over c.steps.lines c.steps.self nothing.1));
    }

pub returns-in-Err : goal.returns-in-Err
returns-in-Err g c = record {
  ok = ShowedSo-end c.args.lines c.steps.lines c.args.self.now c.steps.self c.perform_next.new.self _ _ _
      c.write_fault.result (fault_text c.in-Err.fault) c.steps.invariant c.write_fault.ensures.writes
      (stopped c.steps.lines c.steps.self c.perform_next.new.self c.in-Err.fault c.in-Err.ensures.only c.in-Err.ensures.err);
}

pub returns : goal.returns
returns g c = record {
  ok = ShowedSo-over c.args.lines c.steps.lines c.args.self.now c.steps.self c.steps.self _ _ c.steps.invariant
      (none c.steps.lines c.steps.self (omega (arith, c.len.ensures.len)));
}
