use Rattle.std.specs.Io.KnownBytes.{Appends}
use Rattle.em_debugger.specs.History.{lines_between, lines_text}
use Rattle.em_debugger.proofs.debugger.Debugger.write_lines_between.Given as goal

-- the lines so far
abbrev pub invariant-loop-passed : goal.invariant-loop-passed
invariant-loop-passed g l =
    let contents = g.W.Write.contents in
    Appends (contents l.fn.writer) (contents l.writer)
    (lines_text l.self l.here (lines_between l.self.tape.did l.before l.passed))
