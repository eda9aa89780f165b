use Rattle.em_names.specs.Near.{AreNear}
use Rattle.em_names.proofs.near.nearest_in.Given as goal

abbrev pub invariant-loop-index : goal.invariant-loop-index
invariant-loop-index l = AreNear l.near
