use Rattle.std.proofs.Common.{◌++◌, refl}
use Rattle.std.specs.Prelude.{codes}
use Rattle.std.proofs.lemmas.Result.{MatchResult-from_err}
use Rattle.em_text.proofs.WritingLemmas.{WroteFront-more, WroteFront-none, WroteFront-part, Writes-more}
use Rattle.em_debugger.specs.Accesses.{target_text}
use Rattle.em_debugger.proofs.accesses.write_accessed.Goals as goal

pub returns-in_err-write_whole : goal.returns-in_err-write_whole
returns-in_err-write_whole g c =
    let wrote-0 = WroteFront-none (g.W.Write.contents c.args.writer.now) (codes "accessed " ++ target_text c.args.target) in
    record {
      writes = MatchResult-from_err _ _ _ c.from_residual.ensures.0 (λ _.
          WroteFront-part (target_text c.args.target) wrote-0 refl c.in_err-write_whole.ensures.writes);
    }

pub returns : goal.returns
returns g c =
    let wrote-0 = WroteFront-none (g.W.Write.contents c.args.writer.now) (codes "accessed " ++ target_text c.args.target) in
    let wrote-1 = WroteFront-more (codes "accessed ") wrote-0 refl c.in_ok-write_whole.ensures.writes in
    record {
      writes = Writes-more _ _ _ _ wrote-1.front (target_text c.args.target) _ wrote-1.written c.write_target.ensures.writes wrote-1.whole;
    }
