use Rattle.std.proofs.Common.{refl}
use Rattle.std.proofs.lemmas.Result.{MatchResult-from_err}
use Rattle.em_text.proofs.WritingLemmas.{WroteFront-more, WroteFront-none, WroteFront-part, Writes-more}
use Rattle.em_debugger.specs.History.{last_of, lines_between, lines_text, so_far_text, start_text}
use Rattle.em_debugger.proofs.debugger.Debugger.write_so_far.Goals as goal

pub returns-in_err-write_start : goal.returns-in_err-write_start
returns-in_err-write_start g c =
    let wrote-0 = WroteFront-none (g.W.Write.contents c.args.writer.now) (so_far_text c.args.self.now c.args.most c.args.here) in
    record {
      writes = MatchResult-from_err _ _ _ c.from_residual.ensures.0 (λ _.
          WroteFront-part (lines_text c.args.self.now c.args.here (last_of c.args.most (lines_between c.args.self.now.tape.did 0 c.args.here))) wrote-0 refl (c.in_err-write_start.ensures.writes));
    }

pub returns : goal.returns
returns g c =
    let wrote-0 = WroteFront-none (g.W.Write.contents c.args.writer.now) (so_far_text c.args.self.now c.args.most c.args.here) in
    let wrote-1 = WroteFront-more (start_text c.args.here) wrote-0 refl (c.in_ok-write_start.ensures.writes) in
    record {
      writes = Writes-more _ _ _ _ wrote-1.front (lines_text c.args.self.now c.args.here (last_of c.args.most (lines_between c.args.self.now.tape.did 0 c.args.here))) _ wrote-1.written (c.write_newest.ensures.writes) wrote-1.whole;
    }
