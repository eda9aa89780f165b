use Rattle.std.proofs.Common.{subst}
use Rattle.std.proofs.lemmas.Result.{MatchResult-from_err}
use Rattle.em_text.specs.Writer.{WritesPart}
use Rattle.em_text.proofs.WritingLemmas.{WritesPart-among}
use Rattle.em_debugger.specs.Bookmarks.{mark_line, marked_text}
use Rattle.em_debugger.specs.declared.bookmarks.Bookmark.{Bookmark}
use Rattle.em_debugger.proofs.bookmarks.write_all.Goals as goal

pub returns-in_err-write_marked : goal.returns-in_err-write_marked
returns-in_err-write_marked g c =
    let contents = g.W.Write.contents in
    let old = contents c.loop-bookmark.writer in
    let new = contents c.write_marked.new.writer in
    let item : Bookmark = c.bookmark-item.result in
    record {
      writes = MatchResult-from_err _ _ _ c.from_residual.ensures.0 (λ _.
          WritesPart-among mark_line c.args.all.now c.loop-bookmark.bookmark-index item
          c.loop-bookmark-test.true c.loop-bookmark.invariant
          (subst (λ (b : Bookmark). WritesPart old new (mark_line b)) c.bookmark-item.is
          (subst (λ name. WritesPart old new (marked_text name item.event)) c.as_slice.ensures.value
          c.in_err-write_marked.ensures.writes)));
    }
