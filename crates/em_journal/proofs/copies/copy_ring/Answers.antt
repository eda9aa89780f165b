use Rattle.std.proofs.Common.{◌∙◌, ◌+◌, ◌∷◌, [], length, take, sym, ap, subst, arith, length-append}
use Rattle.em_journal.specs.Copies.{AreCopies}
use Rattle.em_journal.proofs.CopyLaws.{copies_next}
use Rattle.em_journal.proofs.copies.copy_ring.Goals as goal

pub loop-k-preserved : goal.loop-k-preserved
loop-k-preserved c =
    let records = c.args.ring.now.items in
    let copies = c.loop-k.copy.items in
    let pushed = c.in-Ok.ensures.ok in
    let copied = c.in_ok-copied.copied in
    let all = copies_next records copies c.loop-k.k c.in-Some.record.now copied (sym c.in-Some.ensures)
    c.loop-k.invariant.records c.in_ok-copied.ensures in
    record {
      records = subst (AreCopies (take (c.loop-k.k + 1) records)) (sym (ap (λ b. b.items) pushed)) all;
      len = ap (λ b. length b.items) pushed
          ∙ omega (arith, length-append copies (copied ∷ []), c.loop-k.invariant.len);
      places = ap (λ b. b.capacity) pushed ∙ c.loop-k.invariant.places;
    }
