use Rattle.std.proofs.Common.{refl}
use Rattle.std.proofs.lemmas.Result.{MatchResult-from_err}
use Rattle.em_text.proofs.WritingLemmas.{Writes-more, WritesPart-front}
use Rattle.em_kept.specs.Head.{base_text, profile_and_mac_text}
use Rattle.em_kept.proofs.head.write_behind_budget.Goals as goal

pub returns-in_err-write_base : goal.returns-in_err-write_base
returns-in_err-write_base g c = record {
  writes = MatchResult-from_err _ _ _ c.from_residual.ensures.0 (λ _.
      WritesPart-front (profile_and_mac_text c.args.profile c.args.mac) c.in_err-write_base.ensures.writes (refl));
}

pub returns : goal.returns
returns g c = record {
  writes = Writes-more _ _ _ _ (base_text c.args.base) (profile_and_mac_text c.args.profile c.args.mac) _
      c.in_ok-write_base.ensures.writes c.write_profile_and_mac.ensures.writes (refl);
}
