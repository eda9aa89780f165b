use Rattle.std.proofs.Common.{take}
use Rattle.std.specs.Io.KnownBytes.{Appends}
use Rattle.em_warnings.specs.Warnings.{lines_of}
use Rattle.em_warnings.proofs.lines.write_each.Given as goal

-- the lines so far
abbrev pub invariant-loop-warning : goal.invariant-loop-warning
invariant-loop-warning g l =
    let contents = g.W.Write.contents in
    Appends (contents l.fn.writer) (contents l.writer) (lines_of (take l.warning-index l.warnings))
