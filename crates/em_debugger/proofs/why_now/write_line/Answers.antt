use Rattle.std.proofs.Common.{sym, subst}
use Rattle.em_text.specs.Writer.{Writes}
use Rattle.em_debugger.proofs.WhyLaws.{line_masked, line_up, line_without_cause}
use Rattle.em_debugger.proofs.why_now.write_line.Goals as goal

pub returns-then-icr-eq0 : goal.returns-then-icr-eq0
returns-then-icr-eq0 g c =
    record {
      writes = subst
          (Writes (g.W.Write.contents c.args.writer.now) (g.W.Write.contents c.write_whole.new.writer) c.write_whole.result)
          (sym (line_without_cause c.args.icr c.args.ims c.if-icr-eq0.true)) c.write_whole.ensures.writes;
    }

pub returns-then-icr-ims-eq0 : goal.returns-then-icr-ims-eq0
returns-then-icr-ims-eq0 g c =
    record {
      writes = subst
          (Writes (g.W.Write.contents c.args.writer.now) (g.W.Write.contents c.write_whole-then-icr-ims-eq0.new.writer) c.write_whole-then-icr-ims-eq0.result)
          (sym (line_masked c.args.icr c.args.ims c.if-icr-eq0.false c.if-icr-ims-eq0.true)) c.write_whole-then-icr-ims-eq0.ensures.writes;
    }

pub returns : goal.returns
returns g c =
    record {
      writes = subst
          (Writes (g.W.Write.contents c.args.writer.now) (g.W.Write.contents c.write_whole-2.new.writer) c.write_whole-2.result)
          (sym (line_up c.args.icr c.args.ims c.if-icr-eq0.false c.if-icr-ims-eq0.false)) c.write_whole-2.ensures.writes;
    }
