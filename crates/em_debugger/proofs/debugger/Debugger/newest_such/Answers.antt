use Rattle.std.proofs.Common.{◌≡◌, ◌<◌, true, false, ap, sym, ◌∙◌, arith}
use Rattle.em_debugger.specs.Debugger.{came}
use Rattle.em_debugger.specs.Why.{is_such, newest_such}
use Rattle.em_debugger.proofs.WhyLaws.{such_before, such_here}
use Rattle.em_debugger.proofs.debugger.Debugger.newest_such.Goals as goal

pub loop-line-preserved : goal.loop-line-preserved
loop-line-preserved c =
    let d = c.args.self.now in
    let some : 0 < c.loop-line.line = omega arith in
    let none : is_such c.args.such (came c.loop-line.line d) ≡ false =
    ap (is_such c.args.such) (sym c.of.ensures) ∙ sym c.is_such.ensures ∙ c.if-is_such.false in
    record {
      same = sym (such_before c.args.such d c.loop-line.line some none) ∙ c.loop-line.invariant.same;
      within = omega arith;
    }

pub returns-then-is_such-clause-newest : goal.returns-then-is_such-clause-newest
returns-then-is_such-clause-newest c =
    let d = c.args.self.now in
    let some : 0 < c.loop-line.line = omega arith in
    let is : is_such c.args.such (came c.loop-line.line d) ≡ true =
    ap (is_such c.args.such) (sym c.of.ensures) ∙ sym c.is_such.ensures ∙ c.if-is_such.true in
    sym (such_here c.args.such d c.loop-line.line some is) ∙ c.loop-line.invariant.same

pub returns-clause-newest : goal.returns-clause-newest
returns-clause-newest c =
    let none : c.loop-line.line ≡ 0 = omega arith in
    none ∙ ap (newest_such c.args.such c.args.self.now) (sym none) ∙ c.loop-line.invariant.same
