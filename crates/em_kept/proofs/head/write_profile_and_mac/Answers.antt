use Rattle.std.proofs.Common.{refl}
use Rattle.std.proofs.lemmas.Result.{MatchResult-from_err}
use Rattle.em_text.proofs.WritingLemmas.{Writes-more, WritesPart-front}
use Rattle.em_kept.specs.Head.{mac_text, profile_text}
use Rattle.em_kept.proofs.head.write_profile_and_mac.Goals as goal

pub returns-in_err-write_profile : goal.returns-in_err-write_profile
returns-in_err-write_profile g c = record {
  writes = MatchResult-from_err _ _ _ c.from_residual.ensures.0 (λ _.
      WritesPart-front (mac_text c.args.mac) c.in_err-write_profile.ensures.writes (refl));
}

pub returns : goal.returns
returns g c = record {
  writes = Writes-more _ _ _ _ (profile_text c.args.profile) (mac_text c.args.mac) _
      c.in_ok-write_profile.ensures.writes c.write_mac.ensures.writes (refl);
}
