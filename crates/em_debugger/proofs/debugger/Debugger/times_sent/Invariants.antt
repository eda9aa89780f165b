use Rattle.std.proofs.Common.{◌≡◌}
use Rattle.em_tape.specs.Texts.{texts}
use Rattle.em_debugger.specs.Sending.{course_at, course_of}
use Rattle.em_debugger.proofs.debugger.Debugger.times_sent.Given as goal

-- so many lines were passed
abbrev pub invariant-loop-before : goal.invariant-loop-before
invariant-loop-before l =
    course_of l.clock ≡ course_at l.before l.self.sent.firsts.items (texts l.self.marks.answers.items)
