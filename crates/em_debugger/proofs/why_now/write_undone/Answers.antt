use Rattle.std.proofs.Common.{◌++◌, refl}
use Rattle.std.specs.Prelude.{Some, codes}
use Rattle.std.proofs.lemmas.Result.{MatchResult-from_err}
use Rattle.em_text.proofs.WritingLemmas.{WroteFront-more, WroteFront-none, WroteFront-part, Writes-more}
use Rattle.em_reasons.specs.Explain.{why_text}
use Rattle.em_debugger.specs.WhyNow.{undone_text, would_text}
use Rattle.em_debugger.proofs.why_now.write_undone.Goals as goal

pub returns-in_err-write_how : goal.returns-in_err-write_how
returns-in_err-write_how g c =
    let wrote-0 = WroteFront-none (g.W.Write.contents c.args.writer.now) (would_text (Some c.args.why)) in
    record {
      writes = MatchResult-from_err _ _ _ c.from_residual.ensures.0 (λ _.
          WroteFront-part (why_text (Some c.args.why) ++ codes "\n") wrote-0 refl c.in_err-write_how.ensures.writes);
    }

pub returns-in_err-write : goal.returns-in_err-write
returns-in_err-write g c =
    let wrote-0 = WroteFront-none (g.W.Write.contents c.args.writer.now) (would_text (Some c.args.why)) in
    let wrote-1 = WroteFront-more (undone_text c.args.why) wrote-0 refl c.in_ok-write_how.ensures.writes in
    record {
      writes = MatchResult-from_err _ _ _ c.from_residual-in_err-write.ensures.0 (λ _.
          WroteFront-part (codes "\n") wrote-1 refl c.in_err-write.ensures.writes);
    }

pub returns : goal.returns
returns g c =
    let wrote-0 = WroteFront-none (g.W.Write.contents c.args.writer.now) (would_text (Some c.args.why)) in
    let wrote-1 = WroteFront-more (undone_text c.args.why) wrote-0 refl c.in_ok-write_how.ensures.writes in
    let wrote-2 = WroteFront-more (why_text (Some c.args.why)) wrote-1 refl c.in_ok-write.ensures.writes in
    record {
      writes = Writes-more _ _ _ _ wrote-2.front (codes "\n") _ wrote-2.written c.write_whole.ensures.writes
          wrote-2.whole;
    }
