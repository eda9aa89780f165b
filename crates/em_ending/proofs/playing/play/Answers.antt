use Rattle.std.proofs.Common.{inl, inr, refl, rules}
use Rattle.em_ending.proofs.PlayingLemmas.{leaves_of, leaves_on}
use Rattle.em_ending.proofs.playing.play.Goals as goal

pub returns-then-is_err : goal.returns-then-is_err
returns-then-is_err g c =
    let did = c.run-ran.ensures in
    let leaves = leaves_of _ _ _ _ _ _ c.run-ran.result did.ok did.read did.too_large did.memory did.write in
    record {
      ran = c.run-ran.result;
      leaves = leaves_on _ _ _ _ _ _ _ c.run-ran.result leaves c.flush.ensures.bytes;
      ends = inr refl;
    }

pub returns : goal.returns
returns g c =
    let did = c.run-ran.ensures in
    let leaves = leaves_of _ _ _ _ _ _ c.run-ran.result did.ok did.read did.too_large did.memory did.write in
    record {
      ran = c.run-ran.result;
      leaves = leaves_on _ _ _ _ _ _ _ c.run-ran.result leaves c.flush.ensures.bytes;
      ends = inl (search rules, search rules);
    }
