use Rattle.std.proofs.Common.{◌≡◌, arith}
use Rattle.em_debugger.proofs.HistoryLaws.{OpensSo-end, OpensSo-more, OpensSo-none}
use Rattle.em_debugger.proofs.history.write_opened.Goals as goal

pub loop-left-init : goal.loop-left-init
loop-left-init g c = record {
  within = omega arith;
  opens = OpensSo-none c.args.tape.now c.args.here c.args.events _;
}

pub loop-left-preserved : goal.loop-left-preserved
loop-left-preserved g c =
    let one = c.in_ok-write_opened_at.ensures.ok in
    record {
      within = omega (arith, c.loop-left.invariant.within);
      opens = OpensSo-more c.args.tape.now c.args.here c.args.events c.loop-left.left _ _ _ one.0
          (omega (arith, c.loop-left-test.true)) c.loop-left.invariant.opens one.1 one.2;
    }

pub returns : goal.returns
returns g c =
    let over : c.loop-left.left ≡ 0 = omega (arith, c.loop-left-test.false) in
    record {
      ok = OpensSo-end c.args.tape.now c.args.here c.args.events c.loop-left.left _ _ over c.loop-left.invariant.opens;
    }
