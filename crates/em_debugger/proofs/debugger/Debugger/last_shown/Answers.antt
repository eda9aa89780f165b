use Rattle.std.proofs.Common.{◌≡◌, ◌+◌, length, sym, ◌∙◌, arith, true, false, inl, inr}
use Rattle.em_debugger.specs.History.{lines_between}
use Rattle.em_debugger.proofs.HistoryLaws.{count_behind, ahead_shown}
use Rattle.em_debugger.proofs.debugger.Debugger.last_shown.Goals as goal
use Rattle.em_debugger.proofs.debugger.Debugger.last_shown.Goals.{then-did_something, else-did_something}

pub loop-last-preserved : goal.loop-last-preserved
loop-last-preserved c =
    let noted = c.args.self.now.tape.did in
    let last = c.loop-last.last in
    let here = c.args.here in
    elim c.if-did_something.branch [
      | then-did_something w ↦
          let n : length (lines_between noted here (last + 1)) ≡ length (lines_between noted here last) + 1 =
          count_behind noted here last true c.loop-last.invariant.behind
          (sym c.did_something.ensures ∙ w.if-did_something.true) in
          record { behind = omega arith; within = omega arith; count = omega (arith, n, w.left-is) }
      | else-did_something w ↦
          let n : length (lines_between noted here (last + 1)) ≡ length (lines_between noted here last) + 0 =
          count_behind noted here last false c.loop-last.invariant.behind
          (sym c.did_something.ensures ∙ w.if-did_something.false) in
          record { behind = omega arith; within = omega arith; count = omega (arith, n, w.left-is) }
    ]

pub returns-then-left-eq0-clause-lines : goal.returns-then-left-eq0-clause-lines
returns-then-left-eq0-clause-lines c =
    ahead_shown c.args.self.now.tape.did c.args.here c.loop-last.last (length c.args.self.now.tape.did) c.args.most
    c.loop-last.left c.loop-last.invariant.behind (λ past. absurd (omega arith)) c.loop-last.invariant.count
    (inl (omega arith))

pub returns-clause-lines : goal.returns-clause-lines
returns-clause-lines c =
    ahead_shown c.args.self.now.tape.did c.args.here c.loop-last.last (length c.args.self.now.tape.did) c.args.most
    c.loop-last.left c.loop-last.invariant.behind (λ past. absurd (omega arith)) c.loop-last.invariant.count
    (inr (omega arith))
