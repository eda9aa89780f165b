use Rattle.em_debugger.proofs.PlayedLaws.{to_do}
use Rattle.em_debugger.proofs.StepsLaws.{ShowedSo}
use Rattle.em_debugger.proofs.debugger.Debugger.show_steps.Given as goal

-- some steps were shown
abbrev pub invariant-steps : goal.invariant-steps
invariant-steps g l =
    let contents = g.W.Write.contents in
    ShowedSo l.fn.lines l.fn.self l.lines l.self (contents l.fn.writer) (contents l.writer)

abbrev pub decreases-steps : goal.decreases-steps
decreases-steps g l = to_do l.self
