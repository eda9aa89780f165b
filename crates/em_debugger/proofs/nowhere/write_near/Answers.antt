use Rattle.std.proofs.Common.{refl}
use Rattle.std.specs.Prelude.{codes}
use Rattle.std.proofs.lemmas.Result.{MatchResult-from_err}
use Rattle.em_text.proofs.WritingLemmas.{Writes-more, WritesPart-front}
use Rattle.em_names.specs.Names.{name_of}
use Rattle.em_debugger.proofs.nowhere.write_near.Goals as goal

pub returns-in_err-write_whole : goal.returns-in_err-write_whole
returns-in_err-write_whole g c = record {
  writes = MatchResult-from_err _ _ _ c.from_residual.ensures.0 (λ _.
      WritesPart-front (name_of c.args.reg) c.in_err-write_whole.ensures.writes refl);
}

pub returns : goal.returns
returns g c = record {
  writes = Writes-more _ _ _ _ (codes ", near: ") (name_of c.args.reg) _ c.in_ok-write_whole.ensures.writes
      c.write_name.ensures.writes refl;
}
