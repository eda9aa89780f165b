use Rattle.std.proofs.Common.{take}
use Rattle.std.specs.Io.KnownBytes.{Appends}
use Rattle.em_debugger.specs.Warned.{rules_text}
use Rattle.em_debugger.proofs.debugger.Debugger.write_rules.Given as goal

-- the rules so far
abbrev pub invariant-loop-rule : goal.invariant-loop-rule
invariant-loop-rule g l =
    let contents = g.W.Write.contents in
    Appends (contents l.fn.writer) (contents l.writer) (rules_text l.self l.end (take l.rule-index l.rules))
