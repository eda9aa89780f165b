use Rattle.std.proofs.Common.{◌++◌, refl}
use Rattle.std.specs.Prelude.{codes}
use Rattle.std.proofs.lemmas.Result.{MatchResult-from_err}
use Rattle.em_text.proofs.WritingLemmas.{WroteFront-more, WroteFront-none, WroteFront-part, Writes-more}
use Rattle.em_names.specs.Names.{name_of}
use Rattle.em_debugger.proofs.accesses.write_wrote.Goals as goal

pub returns-in_err-write_whole : goal.returns-in_err-write_whole
returns-in_err-write_whole g c =
    let wrote-0 = WroteFront-none (g.W.Write.contents c.args.writer.now) (codes "wrote " ++ name_of c.args.reg) in
    record {
      writes = MatchResult-from_err _ _ _ c.from_residual.ensures.0 (λ _.
          WroteFront-part (name_of c.args.reg) wrote-0 refl c.in_err-write_whole.ensures.writes);
    }

pub returns : goal.returns
returns g c =
    let wrote-0 = WroteFront-none (g.W.Write.contents c.args.writer.now) (codes "wrote " ++ name_of c.args.reg) in
    let wrote-1 = WroteFront-more (codes "wrote ") wrote-0 refl c.in_ok-write_whole.ensures.writes in
    record {
      writes = Writes-more _ _ _ _ wrote-1.front (name_of c.args.reg) _ wrote-1.written c.write_name.ensures.writes wrote-1.whole;
    }
