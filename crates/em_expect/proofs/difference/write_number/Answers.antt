use Rattle.std.proofs.Common.{◌∷◌, ap, sym, append_assoc}
use Rattle.std.specs.Prelude.{codes}
use Rattle.std.proofs.lemmas.Result.{MatchResult-from_err}
use Rattle.em_text.proofs.WritingLemmas.{Writes-more, WritesPart-front}
use Rattle.em_names.specs.Bits.{four_digits}
use Rattle.em_expect.specs.Difference.{holds_text}
use Rattle.em_expect.proofs.difference.write_number.Goals as goal

pub returns-in_err-write_pieces : goal.returns-in_err-write_pieces
returns-in_err-write_pieces g c =
    let name = c.args.name.now in
    let digits = four_digits c.args.number in
    record {
      writes = MatchResult-from_err _ _ _ c.from_residual.ensures.0 (λ _.
          WritesPart-front digits c.in_err-write_pieces.ensures.writes
          (ap (λ text. 44 ∷ 32 ∷ text) (sym (append_assoc name (codes " is ") digits))));
    }

pub returns : goal.returns
returns g c =
    let name = c.args.name.now in
    let digits = four_digits c.args.number in
    record {
      writes = Writes-more _ _ _ _ (holds_text name (codes "")) digits _ c.in_ok-write_pieces.ensures.writes
          c.write_low.ensures.writes
          (ap (λ text. 44 ∷ 32 ∷ text) (sym (append_assoc name (codes " is ") digits)));
    }
