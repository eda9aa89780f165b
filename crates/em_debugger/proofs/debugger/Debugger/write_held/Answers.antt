use Rattle.std.proofs.Common.{◌+◌, refl, arith}
use Rattle.em_debugger.proofs.AccessesLaws.{HeldSo-end, HeldSo-more}
use Rattle.em_debugger.proofs.debugger.Debugger.write_held.Goals as goal

pub loop-count-preserved : goal.loop-count-preserved
loop-count-preserved g c =
    HeldSo-more c.args.self.now c.args.window.now c.args.sort c.args.most _ _ _ c.loop-count.back c.loop-count.count
    (c.loop-count.count + 1) c.in-Some.noted c.loop-count.invariant (omega arith) c.in-Some.ensures.some
    c.in_ok-write_noted.ensures.writes refl

pub returns-in_default : goal.returns-in_default
returns-in_default g c = record {
  ok = HeldSo-end c.args.self.now c.args.window.now c.args.sort c.args.most _ _ c.loop-count.back c.loop-count.count
      c.loop-count.invariant (λ fewer. c.in_default.ensures.none);
}

pub returns : goal.returns
returns g c = record {
  ok = HeldSo-end c.args.self.now c.args.window.now c.args.sort c.args.most _ _ c.loop-count.back c.loop-count.count
      c.loop-count.invariant (λ fewer. absurd (omega arith));
}
