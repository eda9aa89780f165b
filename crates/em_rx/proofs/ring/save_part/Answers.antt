-- The piece that comes first is saved last.
use Rattle.std.proofs.Common.{◌≡◌, List, ◌+◌, ◌++◌, ℕ, length, sym, ap, ◌∙◌, arith, length-append}
use Rattle.std.proofs.lemmas.List.{append-nil, nil_from_length}
use Rattle.std.proofs.lemmas.Bool.Decides.{nat_tests}
use Rattle.em_mem.specs.OldOctets.{saved}
use Rattle.em_mem.proofs.OldOctetsLaws.{saved-saved}
use Rattle.em_mem.proofs.RingLaws.{length-ring_part}
use Rattle.em_rx.proofs.ring.save_part.Goals as goal
use Rattle.em_rx.proofs.ring.save_part.Goals.{then-not-is_empty, else-not-is_empty}

pub returns : goal.returns
returns c =
    let front = c.pieces.result.0.now in
    let back = c.pieces.result.1.now in
    let size = length-ring_part c.args.ring.now c.args.at c.args.len c.requires.size in
    let both : length front + length back ≡ c.args.len
    = omega (arith, length-append front back, ap length c.pieces.ensures, size) in
    c.save-2.ensures
    ∙ elim c.if-not-is_empty.branch [
      | then-not-is_empty w ↦
          ap (saved front) (w.old-is ∙ w.save.ensures)
          ∙ saved-saved front back c.args.old.now (omega (arith, both, c.requires.old_room))
          ∙ ap (λ (d : List ℕ). saved d c.args.old.now) c.pieces.ensures
      | else-not-is_empty w ↦
          let none : length back ≡ 0 = grind (arith, nat_tests, w.if-not-is_empty.false, c.is_empty.ensures) in
          let all : front ≡ front ++ back
          = sym (append-nil front) ∙ ap (λ (x : List ℕ). front ++ x) (sym (nil_from_length back none)) in
          ap (saved front) w.old-is ∙ ap (λ (d : List ℕ). saved d c.args.old.now) (all ∙ c.pieces.ensures)
    ]
