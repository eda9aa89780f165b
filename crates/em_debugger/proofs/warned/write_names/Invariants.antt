use Rattle.std.proofs.Common.{take}
use Rattle.std.specs.Io.KnownBytes.{Appends}
use Rattle.em_debugger.specs.Warned.{names_text}
use Rattle.em_debugger.proofs.warned.write_names.Given as goal

-- the names so far
abbrev pub invariant-loop-rule : goal.invariant-loop-rule
invariant-loop-rule g l =
    let contents = g.W.Write.contents in
    Appends (contents l.fn.writer) (contents l.writer) (names_text (take l.rule-index l.rules))
