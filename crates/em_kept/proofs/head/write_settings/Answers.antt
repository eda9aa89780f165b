use Rattle.std.proofs.Common.{refl}
use Rattle.std.proofs.lemmas.Result.{MatchResult-from_err}
use Rattle.em_text.proofs.WritingLemmas.{Writes-more, WritesPart-front}
use Rattle.std.specs.Prelude.{codes}
use Rattle.em_kept.specs.Kept.{numbers_behind}
use Rattle.em_kept.specs.Head.{behind_budget}
use Rattle.em_kept.proofs.head.write_settings.Goals as goal

pub returns-in_err-write_numbers : goal.returns-in_err-write_numbers
returns-in_err-write_numbers g c = record {
  writes = MatchResult-from_err _ _ _ c.from_residual.ensures.0 (λ _.
      WritesPart-front (behind_budget c.args.profile c.args.base c.args.mac) c.in_err-write_numbers.ensures.writes (refl));
}

pub returns : goal.returns
returns g c = record {
  writes = Writes-more _ _ _ _ (numbers_behind (codes "# em_debug --memory ") c.args.memory (codes " --budget ") c.args.budget) (behind_budget c.args.profile c.args.base c.args.mac) _
      c.in_ok-write_numbers.ensures.writes c.write_behind_budget.ensures.writes (refl);
}
