use Rattle.std.proofs.Common.{refl, ◌/◌, arith}
use Rattle.std.specs.Prelude.{slice_index}
use Rattle.hex.specs.Hex.{upper_digits}
use Rattle.std.specs.Simd.Lanes.{chunk}
use Rattle.std.proofs.lemmas.Simd.{shifts_fit_splat}
use Rattle.em_text.specs.Digits.{lane_digit}
use Rattle.em_text.proofs.DigitsLemmas.{lanes_are_of}
use Rattle.em_text.proofs.digits.high_digits.Goals as goal

pub returns : goal.returns
returns g c =
    lanes_are_of _ 4 lane_digit (λ octet. slice_index upper_digits (octet / 16)) c.args.octets.now c.args.from g.row.N _
    c.requires c.type_inv.octets c.digit_lanes.ensures refl

pub overflow_shr-octets : goal.overflow_shr-octets
overflow_shr-octets g c = shifts_fit_splat 8 (chunk c.args.from g.row.N c.args.octets.now) g.row.N 4 (omega arith)
