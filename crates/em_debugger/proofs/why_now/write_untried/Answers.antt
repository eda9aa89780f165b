use Rattle.std.proofs.Common.{◌++◌, refl}
use Rattle.std.specs.Prelude.{codes}
use Rattle.std.proofs.lemmas.Result.{MatchResult-from_err}
use Rattle.em_text.proofs.WritingLemmas.{WroteFront-more, WroteFront-none, WroteFront-part, Writes-more}
use Rattle.em_debugger.specs.WhyNow.{side_name}
use Rattle.em_debugger.proofs.why_now.write_untried.Goals as goal

pub returns-in_err-write_side : goal.returns-in_err-write_side
returns-in_err-write_side g c =
    let behind = codes ": no memory to try it\n" in
    let wrote-0 = WroteFront-none (g.W.Write.contents c.args.writer.now) (side_name c.args.side ++ behind) in
    record {
      writes = MatchResult-from_err _ _ _ c.from_residual.ensures.0 (λ _.
          WroteFront-part behind wrote-0 refl c.in_err-write_side.ensures.writes);
    }

pub returns : goal.returns
returns g c =
    let behind = codes ": no memory to try it\n" in
    let wrote-0 = WroteFront-none (g.W.Write.contents c.args.writer.now) (side_name c.args.side ++ behind) in
    let wrote-1 = WroteFront-more (side_name c.args.side) wrote-0 refl c.in_ok-write_side.ensures.writes in
    record {
      writes = Writes-more _ _ _ _ wrote-1.front behind _ wrote-1.written c.write_whole.ensures.writes wrote-1.whole;
    }
