use Rattle.std.proofs.Common.{refl}
use Rattle.std.proofs.lemmas.Result.{MatchResult-from_err}
use Rattle.em_text.proofs.WritingLemmas.{Writes-more, WritesPart-front}
use Rattle.em_prompt.specs.Command.{name_of}
use Rattle.em_prompt.specs.Kept.{behind_text}
use Rattle.em_prompt.proofs.bench_line.BenchLine.write.Goals as goal

pub returns-in_err-write_name : goal.returns-in_err-write_name
returns-in_err-write_name g c = record {
  writes = MatchResult-from_err _ _ _ c.from_residual.ensures.0 (λ _.
      WritesPart-front (behind_text c.args.self.now.words) c.in_err-write_name.ensures.writes refl);
}

pub returns : goal.returns
returns g c = record {
  writes = Writes-more _ _ _ _ (name_of c.args.self.now.command) (behind_text c.args.self.now.words) _
      c.in_ok-write_name.ensures.writes c.write_behind.ensures.writes refl;
}
