use Rattle.std.proofs.Common.{◌∙◌, ap, length, arith}
use Rattle.em_journal.proofs.BackLaws.{more_back, all_back, no_more_back, past_left, run_back}
use Rattle.em_journal.proofs.machine.Machine.back_by.Goals as goal

pub loop-done-preserved : goal.loop-done-preserved
loop-done-preserved c =
    let here = c.loop-done.invariant.view in
    let left = past_left c.loop-done.done c.args.self.now c.loop-done.self here in
    record {
      reached = omega (arith, left, c.in-Ok.ensures.ok.0);
      view = more_back c.loop-done.done c.args.self.now c.loop-done.self c.back.new.self here c.in-Ok.ensures.ok.1;
    }

pub returns-clause-run : goal.returns-clause-run
returns-clause-run c =
    let is = all_back c.loop-done.done c.args.n c.args.self.now c.loop-done.self c.loop-done.invariant.view
    c.loop-done.auto.done-end c.loop-done-test.false in
    run_back c.args.n c.args.self.now c.loop-done.self (omega arith) is

pub returns-in-Err-clause-count : goal.returns-in-Err-clause-count
returns-in-Err-clause-count c =
    let left = past_left c.loop-done.done c.args.self.now c.loop-done.self c.loop-done.invariant.view in
    omega (arith, left, ap length c.in-Err.ensures.empty.0)

pub returns-in-Err-clause-view : goal.returns-in-Err-clause-view
returns-in-Err-clause-view c =
    c.in-Err.ensures.empty.1 ∙ no_more_back c.loop-done.done c.args.n c.args.self.now c.loop-done.self
    c.loop-done.invariant.view c.loop-done.auto.done-end c.in-Err.ensures.empty.0

pub returns-in-Err-clause-run : goal.returns-in-Err-clause-run
returns-in-Err-clause-run c =
    run_back c.loop-done.done c.args.self.now c.back.new.self c.loop-done.invariant.reached
    (c.in-Err.ensures.empty.1 ∙ c.loop-done.invariant.view)
