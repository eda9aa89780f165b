use Rattle.std.proofs.Common.{sym, subst}
use Rattle.em_text.specs.Writer.{Writes}
use Rattle.em_reasons.specs.declared.why.Why.{Why}
use Rattle.em_debugger.specs.WhyNow.{undone_text}
use Rattle.em_debugger.proofs.WhyLaws.{idle_text}
use Rattle.em_debugger.proofs.why_now.write_how.Goals as goal

pub returns-in-Refused : goal.returns-in-Refused
returns-in-Refused g c =
    record {
      writes = subst
          (λ (why : Why). Writes (g.W.Write.contents c.args.writer.now) (g.W.Write.contents c.write_whole.new.writer) c.write_whole.result (undone_text why))
          (sym c.in-Refused.is) c.write_whole.ensures.writes;
    }

pub returns-in_default : goal.returns-in_default
returns-in_default g c =
    record {
      writes = subst
          (Writes (g.W.Write.contents c.args.writer.now) (g.W.Write.contents c.write_whole-in_default.new.writer) c.write_whole-in_default.result)
          (sym (idle_text c.args.why c.in_default.not-Refused)) c.write_whole-in_default.ensures.writes;
    }
