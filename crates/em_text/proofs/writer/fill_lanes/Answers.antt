use Rattle.std.proofs.Common.{◌+◌, arith, subst}
use Rattle.hex.specs.Hex.{upper_digits}
use Rattle.hex.proofs.Pairs.{encode_step}
use Rattle.em_text.specs.Writer.{AreDigits}
use Rattle.em_text.proofs.writer.fill_lanes.Goals as goal

pub loop-i-preserved : goal.loop-i-preserved
loop-i-preserved g c =
    subst (AreDigits c.args.octets.now _) (omega arith)
    (encode_step upper_digits c.args.octets.now c.loop-i.digits (c.args.done + c.loop-i.i) _ _ (omega arith) (omega arith)
    (c.high_digits.ensures c.loop-i.i (omega arith)) (c.low_digits.ensures c.loop-i.i (omega arith))
    c.loop-i.invariant)
