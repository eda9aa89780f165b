use Rattle.std.proofs.Common.{true, refl}
use Rattle.std.proofs.lemmas.Result.{MatchResult-from_err}
use Rattle.em_text.proofs.WritingLemmas.{WroteFront-more, WroteFront-none, WroteFront-part, Writes-more}
use Rattle.em_debugger.specs.Place.{line_here}
use Rattle.em_debugger.specs.Moves.{behind_text, gone_text}
use Rattle.em_debugger.specs.Moves.{place_text}
use Rattle.em_debugger.proofs.moves.write_before.Goals as goal

pub returns-in_err-write_place : goal.returns-in_err-write_place
returns-in_err-write_place g c =
    let wrote-0 = WroteFront-none (g.W.Write.contents c.args.writer.now) (gone_text c.args.tape.now (behind_text
    c.args.lines (line_here c.args.tape.now)) true) in
    record {
      writes = MatchResult-from_err _ _ _ c.from_residual.ensures.0 (λ _.
          WroteFront-part (behind_text c.args.lines (line_here c.args.tape.now)) wrote-0 refl
          c.in_err-write_place.ensures.writes);
    }

pub returns : goal.returns
returns g c =
    let wrote-0 = WroteFront-none (g.W.Write.contents c.args.writer.now) (gone_text c.args.tape.now (behind_text
    c.args.lines (line_here c.args.tape.now)) true) in
    let wrote-1 = WroteFront-more (place_text c.args.tape.now) wrote-0 refl c.in_ok-write_place.ensures.writes in
    record {
      writes = Writes-more _ _ _ _ wrote-1.front (behind_text c.args.lines (line_here c.args.tape.now)) _
          wrote-1.written (rw c.line_here.ensures.line at c.write_behind.ensures.writes) wrote-1.whole;
    }
