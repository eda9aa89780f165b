use Rattle.std.proofs.Common.{◌≡◌, ◌+◌, ◌-◌, ◌<◌, length, sym, ◌∙◌, arith, true, false, inl, inr}
use Rattle.em_debugger.specs.History.{lines_between}
use Rattle.em_debugger.proofs.HistoryLaws.{count_before, newest_shown}
use Rattle.em_debugger.proofs.debugger.Debugger.before_shown.Goals as goal
use Rattle.em_debugger.proofs.debugger.Debugger.before_shown.Goals.{then-did_something, else-did_something}

pub loop-before-preserved : goal.loop-before-preserved
loop-before-preserved c =
    let noted = c.args.self.now.tape.did in
    let before = c.loop-before.before in
    let here = c.args.here in
    let some : 0 < before = omega arith in
    elim c.if-did_something.branch [
      | then-did_something w ↦
          let n : length (lines_between noted (before - 1) here) ≡ 1 + length (lines_between noted before here) =
          count_before noted before here true some c.loop-before.invariant.within
          (sym c.did_something.ensures ∙ w.if-did_something.true) in
          record { within = omega arith; count = omega (arith, n, w.left-is) }
      | else-did_something w ↦
          let n : length (lines_between noted (before - 1) here) ≡ 0 + length (lines_between noted before here) =
          count_before noted before here false some c.loop-before.invariant.within
          (sym c.did_something.ensures ∙ w.if-did_something.false) in
          record { within = omega arith; count = omega (arith, n, w.left-is) }
    ]

pub returns-then-left-eq0-clause-lines : goal.returns-then-left-eq0-clause-lines
returns-then-left-eq0-clause-lines c =
    newest_shown c.args.self.now.tape.did c.loop-before.before c.args.here c.args.most c.loop-before.left
    c.loop-before.invariant.within c.loop-before.invariant.count (inl (omega arith))

pub returns-clause-lines : goal.returns-clause-lines
returns-clause-lines c =
    newest_shown c.args.self.now.tape.did c.loop-before.before c.args.here c.args.most c.loop-before.left
    c.loop-before.invariant.within c.loop-before.invariant.count (inr (omega arith))
