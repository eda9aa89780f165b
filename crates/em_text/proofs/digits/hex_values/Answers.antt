use Rattle.std.proofs.Common.{refl}
use Rattle.std.specs.Prelude.{min}
use Rattle.std.specs.Char.{digit_value}
use Rattle.std.specs.Simd.Lanes.{chunk}
use Rattle.std.proofs.lemmas.Simd.{length-chunk, zip2_splat, splat_is_map}
use Rattle.em_text.proofs.DigitsLemmas.{with_splat, where_below, lanes_are}
use Rattle.em_text.proofs.digits.hex_values.Goals as goal

pub returns : goal.returns
returns g c =
    let n = g.row.N in
    let v = chunk c.args.from n c.args.text.now in
    let long = length-chunk c.args.from n c.args.text.now c.requires in
    let numerals = zip2_splat _ v n 48 long in
    let past_a = with_splat _ _ v n 97 long (zip2_splat _ v n 32 long) in
    let six = where_below _ _ _ v n 6 long past_a past_a (splat_is_map v n 6 long) in
    let letters = with_splat _ _ v n 10 long six in
    let all = where_below _ _ _ v n 10 long numerals numerals letters in
    lanes_are _ (λ octet. min (digit_value octet) 16) c.args.text.now c.args.from n _ c.requires
    c.type_inv.text all refl
