use Rattle.std.proofs.Common.{sym, subst}
use Rattle.std.specs.Prelude.{Option}
use Rattle.em_text.specs.Writer.{Writes}
use Rattle.em_reasons.specs.declared.why.Why.{Why}
use Rattle.em_debugger.specs.WhyNow.{would_text}
use Rattle.em_debugger.proofs.why_now.write_would.Goals as goal

pub returns-in-None : goal.returns-in-None
returns-in-None g c =
    record {
      writes = subst
          (λ (why : Option Why). Writes (g.W.Write.contents c.args.writer.now) (g.W.Write.contents c.write_whole.new.writer) c.write_whole.result (would_text why))
          (sym c.in-None.is) c.write_whole.ensures.writes;
    }
