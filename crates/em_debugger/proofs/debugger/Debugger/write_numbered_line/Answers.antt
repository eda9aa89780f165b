use Rattle.std.proofs.Common.{◌++◌, refl}
use Rattle.std.proofs.lemmas.Result.{MatchResult-from_err}
use Rattle.em_text.proofs.WritingLemmas.{WroteFront-more, WroteFront-none, WroteFront-part, Writes-more}
use Rattle.em_debugger.specs.Excerpt.{given_text, numbered_line_text}
use Rattle.em_debugger.specs.History.{mark_text}
use Rattle.em_debugger.specs.Listing.{numbers_text}
use Rattle.em_debugger.proofs.debugger.Debugger.write_numbered_line.Goals as goal

pub returns-in_err-write_whole : goal.returns-in_err-write_whole
returns-in_err-write_whole g c =
    let wrote-0 = WroteFront-none (g.W.Write.contents c.args.writer.now) (numbered_line_text c.args.self.now c.args.here c.args.line) in
    record {
      writes = MatchResult-from_err _ _ _ c.from_residual.ensures.0 (λ _.
          WroteFront-part (numbers_text c.args.line ++ given_text c.args.self.now c.args.line) wrote-0 refl
          (rw c.mark.ensures at c.in_err-write_whole.ensures.writes));
    }

pub returns-in_err-write_number_column : goal.returns-in_err-write_number_column
returns-in_err-write_number_column g c =
    let wrote-0 = WroteFront-none (g.W.Write.contents c.args.writer.now) (numbered_line_text c.args.self.now c.args.here c.args.line) in
    let wrote-1 = WroteFront-more (mark_text c.args.here c.args.line) wrote-0 refl
    (rw c.mark.ensures at c.in_ok-write_whole.ensures.writes) in
    record {
      writes = MatchResult-from_err _ _ _ c.from_residual-in_err-write_number_column.ensures.0 (λ _.
          WroteFront-part (given_text c.args.self.now c.args.line) wrote-1 refl
          c.in_err-write_number_column.ensures.writes);
    }

pub returns : goal.returns
returns g c =
    let wrote-0 = WroteFront-none (g.W.Write.contents c.args.writer.now) (numbered_line_text c.args.self.now c.args.here c.args.line) in
    let wrote-1 = WroteFront-more (mark_text c.args.here c.args.line) wrote-0 refl
    (rw c.mark.ensures at c.in_ok-write_whole.ensures.writes) in
    let wrote-2 = WroteFront-more (numbers_text c.args.line) wrote-1 refl c.in_ok-write_number_column.ensures.writes in
    record {
      writes = Writes-more _ _ _ _ wrote-2.front (given_text c.args.self.now c.args.line) _ wrote-2.written
          c.write_given.ensures.writes wrote-2.whole;
    }
