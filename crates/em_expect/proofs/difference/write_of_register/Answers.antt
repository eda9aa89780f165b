use Rattle.std.proofs.Common.{ℕ, List, ◌++◌, ap, sym, ◌∙◌, append_assoc, refl}
use Rattle.std.specs.Prelude.{codes}
use Rattle.std.proofs.lemmas.Result.{MatchResult-from_err}
use Rattle.em_text.proofs.WritingLemmas.{Appends-more, Writes-more, WritesPart-front, WritesPart-more}
use Rattle.em_expect.specs.Agreement.{first_line}
use Rattle.em_expect.specs.Difference.{told_text}
use Rattle.em_expect.proofs.difference.write_of_register.Goals as goal

pub returns-in_err-write_pieces : goal.returns-in_err-write_pieces
returns-in_err-write_pieces g c =
    let told = told_text c.args.read c.args.expected.now (first_line c.args.answer.now) in
    record {
      writes = MatchResult-from_err _ _ _ c.from_residual.ensures.0 (λ _.
          WritesPart-front (told ++ codes "\n") c.in_err-write_pieces.ensures.writes refl);
    }

pub returns-in_err-write_told : goal.returns-in_err-write_told
returns-in_err-write_told g c =
    let expected = c.args.expected.now in
    let told : List ℕ → List ℕ = λ there. told_text c.args.read expected there in
    let wanted = codes "differs: " ++ (expected ++ codes " wanted") in
    record {
      writes = MatchResult-from_err _ _ _ c.from_residual-in_err-write_told.ensures.0 (λ _.
          WritesPart-more wanted c.in_ok-write_pieces.ensures.writes
          (WritesPart-front (codes "\n") c.in_err-write_told.ensures.writes refl)
          (ap (λ there. wanted ++ (told there ++ codes "\n")) (sym c.first_line.ensures)));
    }

pub returns : goal.returns
returns g c =
    let expected = c.args.expected.now in
    let told : List ℕ → List ℕ = λ there. told_text c.args.read expected there in
    let there = c.first_line.result.now in
    let wanted = codes "differs: " ++ (expected ++ codes " wanted") in
    record {
      writes = Writes-more _ _ _ _ (wanted ++ told there) (codes "\n") _
          (Appends-more _ _ _ wanted (told there) _ c.in_ok-write_pieces.ensures.writes
          c.in_ok-write_told.ensures.writes refl)
          c.write_whole.ensures.writes
          (ap (λ there. wanted ++ (told there ++ codes "\n")) (sym c.first_line.ensures)
          ∙ sym (append_assoc wanted (told there) (codes "\n")));
    }
