use Rattle.std.proofs.Common.{Option, subst}
use Rattle.em_text.specs.Writer.{Writes}
use Rattle.em_warnings.specs.declared.warning.Warning.{Warning}
use Rattle.em_debugger.specs.Warned.{said_line}
use Rattle.em_debugger.proofs.debugger.Debugger.write_text.Goals as goal

pub returns : goal.returns
returns g c =
    let contents = g.W.Write.contents in
    record {
      writes = subst (λ (warning : Option Warning). Writes (contents c.args.writer.now)
          (contents c.write_said_line.new.writer) c.write_said_line.result (said_line warning)) c.warning_at.ensures
          c.write_said_line.ensures.writes;
    }
