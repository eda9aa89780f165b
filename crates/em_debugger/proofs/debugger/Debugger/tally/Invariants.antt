use Rattle.std.proofs.Common.{◌≡◌, drop}
use Rattle.em_debugger.specs.Warned.{tally, tally_from}
use Rattle.em_debugger.proofs.debugger.Debugger.tally.Given as goal

-- those of the rules so far, and those of the others
abbrev pub invariant-loop-rule : goal.invariant-loop-rule
invariant-loop-rule l =
    tally_from l.self l.first l.end l.tally (drop l.rule-index l.rules) ≡ tally l.self l.first l.end l.rules
