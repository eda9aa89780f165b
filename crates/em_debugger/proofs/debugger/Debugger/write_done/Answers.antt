use Rattle.std.proofs.Common.{◌++◌, refl}
use Rattle.std.specs.Prelude.{codes}
use Rattle.std.proofs.lemmas.Result.{MatchResult-from_err}
use Rattle.em_text.proofs.WritingLemmas.{WroteFront-more, WroteFront-none, WroteFront-part, Writes-more}
use Rattle.em_debugger.specs.Performing.{heading_text}
use Rattle.em_debugger.proofs.debugger.Debugger.write_done.Goals as goal

pub returns-in_err-write_heading : goal.returns-in_err-write_heading
returns-in_err-write_heading g c =
    let wrote-0 = WroteFront-none (g.W.Write.contents c.args.writer.now)
    (heading_text c.args.self.now c.args.line ++ codes "  it was not idle, dropped or refused\n") in
    record {
      writes = MatchResult-from_err _ _ _ c.from_residual.ensures.0 (λ _.
          WroteFront-part (codes "  it was not idle, dropped or refused\n") wrote-0 refl c.in_err-write_heading.ensures.writes);
    }

pub returns : goal.returns
returns g c =
    let wrote-0 = WroteFront-none (g.W.Write.contents c.args.writer.now)
    (heading_text c.args.self.now c.args.line ++ codes "  it was not idle, dropped or refused\n") in
    let wrote-1 = WroteFront-more (heading_text c.args.self.now c.args.line) wrote-0 refl
    c.in_ok-write_heading.ensures.writes in
    record {
      writes = Writes-more _ _ _ _ wrote-1.front (codes "  it was not idle, dropped or refused\n") _ wrote-1.written
          c.write_whole.ensures.writes wrote-1.whole;
    }
