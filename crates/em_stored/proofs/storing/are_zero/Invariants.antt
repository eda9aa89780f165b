use Rattle.std.proofs.Common.{◌≡◌, drop}
use Rattle.em_stored.specs.Form.{are_zero}
use Rattle.em_stored.proofs.storing.are_zero.Given as goal

-- all so far are zero
abbrev pub invariant-loop-octet : goal.invariant-loop-octet
invariant-loop-octet l = are_zero l.octets ≡ are_zero (drop l.octet-index l.octets)
