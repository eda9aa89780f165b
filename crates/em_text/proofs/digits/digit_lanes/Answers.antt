use Rattle.std.proofs.Common.{sym}
use Rattle.std.proofs.lemmas.Simd.{zip2_splat}
use Rattle.std.proofs.lemmas.List.{map-id}
use Rattle.em_text.proofs.DigitsLemmas.{where_below}
use Rattle.em_text.proofs.digits.digit_lanes.Goals as goal

pub returns : goal.returns
returns g c =
    let n = g.row.N in
    let v = c.args.values in
    let long = c.fits-values.0 in
    where_below _ _ _ v n 10 long (sym (map-id v)) (zip2_splat _ v n 48 long) (zip2_splat _ v n 55 long)
