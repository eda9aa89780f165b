-- A piece of no octet is not the frame's last.
use Rattle.std.proofs.Common.{◌≡◌, ◌+◌, ◌<◌, ◌∙◌, ℕ, arith, ap, sym, subst, refl, nat_le, false}
use Rattle.std.proofs.lemmas.Bool.Decides.{nat_tests}
use Rattle.em_rx.specs.Fifo.{rest, shows}
use Rattle.em_rx.specs.RxStep.{IsSmall}
use Rattle.em_rx.specs.declared.undo.OldPiece.{OldPiece}
use Rattle.em_rx.proofs.fifo.Fifo.next_piece.Goals as goal

pub returns-then-is_null_at-clause-small : goal.returns-then-is_null_at-clause-small
returns-then-is_null_at-clause-small c =
    let at : ℕ = c.in_ok-found.found.at in
    let none : OldPiece = record { buffer = at; end_at = at + 8; len = 0; left = false } in
    let small : IsSmall none
    = record {
      none = λ zero. refl;
      one = λ one. absurd (omega arith);
      most = omega arith;
      buffer = omega (arith, c.places_are_small.ensures, c.in_ok-found.ensures.held.to);
      end_at = omega (arith, c.places_are_small.ensures, c.in_ok-found.ensures.held.to);
    } in
    subst IsSmall (sym c.null_piece.ensures.piece) small

pub returns-then-is_null_at-clause-left : goal.returns-then-is_null_at-clause-left
returns-then-is_null_at-clause-left c =
    let n : ℕ = rest (shows c.args.self.now) in
    let some : 0 < n = omega (arith, c.rest-rest.ensures.some, c.rest-rest.ensures.rest) in
    let test : nat_le n 0 ≡ false = grind (arith, nat_tests, some) in
    ap (λ (p : OldPiece). p.left) c.null_piece.ensures.piece
    ∙ sym test
    ∙ ap (λ (p : OldPiece). nat_le n p.len) (sym c.null_piece.ensures.piece)
