use Rattle.std.proofs.Common.{◌++◌, sym, append_assoc, refl}
use Rattle.std.specs.Prelude.{codes}
use Rattle.std.proofs.lemmas.Result.{MatchResult-from_err}
use Rattle.em_text.proofs.WritingLemmas.{Appends-more, Writes-more, WritesPart-front, WritesPart-more}
use Rattle.em_warnings.specs.Said.{head_text, said}
use Rattle.em_warnings.proofs.said.write_warning.Goals as goal

pub returns-in_err-write_head : goal.returns-in_err-write_head
returns-in_err-write_head g c = record {
  writes = MatchResult-from_err _ _ _ c.from_residual.ensures.0 (λ _.
      WritesPart-front (said c.args.warning ++ codes "\n") c.in_err-write_head.ensures.writes refl);
}

pub returns-in_err-write_said : goal.returns-in_err-write_said
returns-in_err-write_said g c = record {
  writes = MatchResult-from_err _ _ _ c.from_residual-in_err-write_said.ensures.0 (λ _.
      WritesPart-more (head_text c.args.warning) c.in_ok-write_head.ensures.writes
      (WritesPart-front (codes "\n") c.in_err-write_said.ensures.writes refl) refl);
}

pub returns : goal.returns
returns g c =
    let head = head_text c.args.warning in
    let text = said c.args.warning in
    record {
      writes = Writes-more _ _ _ _ (head ++ text) (codes "\n") _
          (Appends-more _ _ _ head text _ c.in_ok-write_head.ensures.writes c.in_ok-write_said.ensures.writes refl)
          c.write_whole.ensures.writes (sym (append_assoc head text (codes "\n")));
    }
