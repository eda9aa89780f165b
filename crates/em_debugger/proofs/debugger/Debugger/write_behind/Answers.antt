use Rattle.std.proofs.Common.{refl}
use Rattle.std.proofs.lemmas.Result.{MatchResult-from_err}
use Rattle.em_text.proofs.WritingLemmas.{WroteFront-more, WroteFront-none, WroteFront-part, Writes-more}
use Rattle.em_debugger.specs.Expected.{compared_text}
use Rattle.em_debugger.specs.Performing.{behind_text}
use Rattle.em_warnings.specs.Warnings.{found_text}
use Rattle.em_debugger.proofs.debugger.Debugger.write_behind.Goals as goal

pub returns-in_err-write_found : goal.returns-in_err-write_found
returns-in_err-write_found g c =
    let wrote-0 = WroteFront-none (g.W.Write.contents c.args.writer.now) (behind_text c.args.self.now c.args.line) in
    record {
      writes = MatchResult-from_err _ _ _ c.from_residual.ensures.0 (λ _.
          WroteFront-part (compared_text c.args.self.now c.args.line) wrote-0 refl
          c.in_err-write_found.ensures.writes);
    }

pub returns : goal.returns
returns g c =
    let wrote-0 = WroteFront-none (g.W.Write.contents c.args.writer.now) (behind_text c.args.self.now c.args.line) in
    let wrote-1 = WroteFront-more (found_text c.args.self.now.warned) wrote-0 refl
    c.in_ok-write_found.ensures.writes in
    record {
      writes = Writes-more _ _ _ _ wrote-1.front (compared_text c.args.self.now c.args.line) _ wrote-1.written
          c.write_compared.ensures.writes wrote-1.whole;
    }
