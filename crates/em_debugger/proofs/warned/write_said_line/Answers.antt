use Rattle.std.proofs.Common.{refl}
use Rattle.std.specs.Prelude.{codes}
use Rattle.std.proofs.lemmas.Result.{MatchResult-from_err}
use Rattle.em_text.proofs.WritingLemmas.{Writes-more, WritesPart-front}
use Rattle.em_debugger.specs.Warned.{said_text}
use Rattle.em_debugger.proofs.warned.write_said_line.Goals as goal

pub returns-in_err-write_if_said : goal.returns-in_err-write_if_said
returns-in_err-write_if_said g c = record {
  writes = MatchResult-from_err _ _ _ c.from_residual.ensures.0 (λ _.
      WritesPart-front (codes "\n") c.in_err-write_if_said.ensures.writes refl);
}

pub returns : goal.returns
returns g c = record {
  writes = Writes-more _ _ _ _ (said_text c.args.warning) (codes "\n") _ c.in_ok-write_if_said.ensures.writes
      c.write_whole.ensures.writes refl;
}
