use Rattle.std.proofs.Common.{take}
use Rattle.std.specs.Io.KnownBytes.{Appends}
use Rattle.em_debugger.specs.Files.{script_of}
use Rattle.em_debugger.proofs.debugger.Debugger.write_all_lines.Given as goal

-- the lines so far
abbrev pub invariant-loop-before : goal.invariant-loop-before
invariant-loop-before g l =
    let contents = g.W.Write.contents in
    Appends (contents l.fn.writer) (contents l.writer) (script_of (take l.before l.self.tape.lines))
