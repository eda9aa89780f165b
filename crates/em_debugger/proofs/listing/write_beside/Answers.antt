use Rattle.std.proofs.Common.{◌++◌, codes, refl}
use Rattle.std.proofs.lemmas.Result.{MatchResult-from_err}
use Rattle.em_text.proofs.WritingLemmas.{WroteFront-more, WroteFront-none, WroteFront-part, Writes-more}
use Rattle.em_debugger.specs.Listing.{beside_text, blanks_text, numbered_text}
use Rattle.em_debugger.proofs.listing.write_beside.Goals as goal

pub returns-in_err-write_whole : goal.returns-in_err-write_whole
returns-in_err-write_whole g c =
    let line = c.args.line.now in
    let wrote-0 = WroteFront-none (g.W.Write.contents c.args.writer.now) (beside_text c.args.number line c.args.answer.now) in
    let wrote-1 = WroteFront-more (numbered_text c.args.number line) wrote-0 refl c.in_ok-write_numbered.ensures.writes in
    record {
      writes = MatchResult-from_err _ _ _ c.from_residual-in_err-write_whole.ensures.0 (λ _.
          WroteFront-part (codes "  " ++ (c.args.answer.now ++ codes "\n")) wrote-1 refl (rw c.blanks_behind.ensures at c.in_err-write_whole.ensures.writes));
    }

pub returns : goal.returns
returns g c =
    let line = c.args.line.now in
    let wrote-0 = WroteFront-none (g.W.Write.contents c.args.writer.now) (beside_text c.args.number line c.args.answer.now) in
    let wrote-1 = WroteFront-more (numbered_text c.args.number line) wrote-0 refl c.in_ok-write_numbered.ensures.writes in
    let wrote-2 = WroteFront-more (blanks_text line) wrote-1 refl (rw c.blanks_behind.ensures at c.in_ok-write_whole.ensures.writes) in
    record {
      writes = Writes-more _ _ _ _ wrote-2.front (codes "  " ++ (c.args.answer.now ++ codes "\n")) _ wrote-2.written c.write_pieces.ensures.writes wrote-2.whole;
    }
