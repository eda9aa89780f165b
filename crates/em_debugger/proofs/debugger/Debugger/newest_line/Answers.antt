use Rattle.std.proofs.Common.{◌≡◌, ◌<◌, ap, sym, ◌∙◌, arith}
use Rattle.em_debugger.specs.History.{newest_line}
use Rattle.em_debugger.proofs.HistoryLaws.{newest_before, newest_here}
use Rattle.em_debugger.proofs.debugger.Debugger.newest_line.Goals as goal

pub loop-line-preserved : goal.loop-line-preserved
loop-line-preserved c =
    let noted = c.args.self.now.tape.did in
    let some : 0 < c.loop-line.line = omega arith in
    record {
      same = sym (newest_before noted c.loop-line.line some (sym c.did_something.ensures ∙ c.if-did_something.false))
          ∙ c.loop-line.invariant.same;
      within = omega arith;
    }

pub returns-then-did_something-clause-newest : goal.returns-then-did_something-clause-newest
returns-then-did_something-clause-newest c =
    let noted = c.args.self.now.tape.did in
    sym (newest_here noted c.loop-line.line (sym c.did_something.ensures ∙ c.if-did_something.true))
    ∙ c.loop-line.invariant.same

pub returns-clause-newest : goal.returns-clause-newest
returns-clause-newest c =
    let noted = c.args.self.now.tape.did in
    let none : c.loop-line.line ≡ 0 = omega arith in
    none ∙ ap (newest_line noted) (sym none) ∙ c.loop-line.invariant.same
