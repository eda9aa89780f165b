use Rattle.std.proofs.Common.{◌<◌, length, arith}
use Rattle.em_debugger.proofs.FilesLaws.{wrote_more}
use Rattle.em_debugger.proofs.debugger.Debugger.write_all_lines.Goals as goal

pub loop-before-preserved : goal.loop-before-preserved
loop-before-preserved g c =
    let tape = c.args.self.now.tape in
    let within : c.loop-before.before < length tape.lines = omega (arith, c.line_here-before-end.ensures.there) in
    wrote_more tape c.loop-before.before _ _ _ within c.loop-before.invariant c.in_ok-write_script_line.ensures.writes
