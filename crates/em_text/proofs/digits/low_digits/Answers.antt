use Rattle.std.proofs.Common.{refl, ◌%◌}
use Rattle.std.specs.Prelude.{slice_index}
use Rattle.hex.specs.Hex.{upper_digits}
use Rattle.em_text.specs.Digits.{lane_digit}
use Rattle.em_text.proofs.DigitsLemmas.{lanes_are_of}
use Rattle.em_text.proofs.digits.low_digits.Goals as goal

pub returns : goal.returns
returns g c =
    lanes_are_of _ 15 lane_digit (λ octet. slice_index upper_digits (octet % 16)) c.args.octets.now c.args.from g.row.N _
    c.requires c.type_inv.octets c.digit_lanes.ensures refl
