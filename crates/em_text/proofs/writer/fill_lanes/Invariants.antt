use Rattle.std.proofs.Common.{◌+◌}
use Rattle.em_text.specs.Writer.{AreDigits}
use Rattle.em_text.proofs.writer.fill_lanes.Given as goal

-- the digits so far, and those of the octets behind, are the digits of all
abbrev pub invariant-loop-i : goal.invariant-loop-i
invariant-loop-i g l = AreDigits l.octets l.digits (l.done + l.i)
