use Rattle.std.proofs.Common.{ℕ, List, subst}
use Rattle.em_text.specs.Writer.{Writes}
use Rattle.em_debugger.specs.History.{lines_text}
use Rattle.em_debugger.proofs.debugger.Debugger.write_newest.Goals as goal

pub returns : goal.returns
returns g c =
    let contents = g.W.Write.contents in
    record {
      writes = subst (λ (lines : List ℕ). Writes (contents c.args.writer.now)
          (contents c.write_lines_between.new.writer) c.write_lines_between.result
          (lines_text c.args.self.now c.args.here lines)) c.before_shown-before.ensures.lines
          c.write_lines_between.ensures.writes;
    }
