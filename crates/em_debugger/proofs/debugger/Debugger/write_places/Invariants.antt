use Rattle.std.specs.Io.KnownBytes.{Appends}
use Rattle.em_debugger.specs.Warned.{place_text}
use Rattle.em_debugger.proofs.ExcerptLaws.{texts_to}
use Rattle.em_debugger.proofs.debugger.Debugger.write_places.Given as goal

-- the lines so far
abbrev pub invariant-loop-line : goal.invariant-loop-line
invariant-loop-line g l =
    let contents = g.W.Write.contents in
    Appends (contents l.fn.writer) (contents l.writer) (texts_to (place_text l.self l.rule) 1 l.line)
