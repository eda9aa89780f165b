use Rattle.std.proofs.Common.{◌≡◌}
use Rattle.std.specs.Prelude.{drop}
use Rattle.em_frames.specs.Moment.{digits_behind, number_in}
use Rattle.em_frames.proofs.moment.number_in.Given as goal

-- what is left is read behind the number so far
abbrev pub invariant-loop-octet : goal.invariant-loop-octet
invariant-loop-octet l = number_in l.fn.text ≡ digits_behind l.number (drop l.octet-index l.text)
