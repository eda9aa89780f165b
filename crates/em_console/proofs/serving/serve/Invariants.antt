use Rattle.em_console.proofs.ServingLaws.{Served}
use Rattle.em_console.specs.Serving.{within}
use Rattle.em_console.proofs.serving.serve.Given as goal

-- each line so far was answered, and its answer told
abbrev pub invariant-loop-lines : goal.invariant-loop-lines
invariant-loop-lines g l =
    Served g.C.Console.passes (within g.S.Answers.answers g.S.Answers.refuses) l.fn.console l.console l.fn.session l.session l.lines
