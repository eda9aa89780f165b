use Rattle.std.proofs.Common.{arith, ap}
use Rattle.std.specs.Prelude.{slice_index}
use Rattle.hex.specs.Hex.{upper_digits}
use Rattle.hex.proofs.Pairs.{encode_step, encode_done}
use Rattle.em_text.proofs.writer.fill_digits.Goals as goal

pub loop-i-preserved : goal.loop-i-preserved
loop-i-preserved c =
    let pair = c.digit_pair.ensures in
    encode_step upper_digits c.args.octets.now c.loop-i.digits c.loop-i.i _ _ (omega arith) (omega arith)
    (ap (λ p. slice_index p 0) pair) (ap (λ p. slice_index p 1) pair) c.loop-i.invariant

pub returns : goal.returns
returns c = encode_done _ _ _ c.loop-i.i (omega arith) (omega arith) c.loop-i.invariant
