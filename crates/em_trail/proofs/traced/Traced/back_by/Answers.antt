use Rattle.std.proofs.Common.{◌∙◌, ap, length, arith}
use Rattle.em_journal.proofs.BackLaws.{more_back, no_more_back, past_left}
use Rattle.em_trail.specs.Trail.{Trail}
use Rattle.em_trail.proofs.traced.Traced.back_by.Goals as goal

pub loop-done-preserved : goal.loop-done-preserved
loop-done-preserved c =
    let here = c.loop-done.invariant.view in
    let left = past_left c.loop-done.done c.args.self.now.view c.loop-done.self.view here in
    record {
      reached = omega (arith, left, c.in-Ok.ensures.ok.went.0);
      view = more_back c.loop-done.done c.args.self.now.view c.loop-done.self.view c.back.new.self.view here
          c.in-Ok.ensures.ok.went.1;
    }

pub returns-in-Err-clause-count : goal.returns-in-Err-clause-count
returns-in-Err-clause-count c =
    let left = past_left c.loop-done.done c.args.self.now.view c.loop-done.self.view c.loop-done.invariant.view in
    omega (arith, left, ap length c.in-Err.ensures.past)

pub returns-in-Err-clause-view : goal.returns-in-Err-clause-view
returns-in-Err-clause-view c =
    ap (λ (t : Trail). t.view) c.in-Err.ensures.same ∙ no_more_back c.loop-done.done c.args.most c.args.self.now.view
    c.loop-done.self.view c.loop-done.invariant.view c.loop-done.auto.done-end c.in-Err.ensures.past
