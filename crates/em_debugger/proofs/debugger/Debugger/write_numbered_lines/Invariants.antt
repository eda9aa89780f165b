use Rattle.std.specs.Io.KnownBytes.{Appends}
use Rattle.em_debugger.specs.Excerpt.{numbered_line_text}
use Rattle.em_debugger.proofs.ExcerptLaws.{texts_to}
use Rattle.em_debugger.proofs.debugger.Debugger.write_numbered_lines.Given as goal

-- the lines so far
abbrev pub invariant-loop-line : goal.invariant-loop-line
invariant-loop-line g l =
    let contents = g.W.Write.contents in
    Appends (contents l.fn.writer) (contents l.writer) (texts_to (numbered_line_text l.self l.here) l.first l.line)
