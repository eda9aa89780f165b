use Rattle.std.proofs.Common.{rules, ◌<◌, arith}
use Rattle.em_text.proofs.DigitsLemmas.{pair_at}
use Rattle.em_text.proofs.digits.digit_pair.Goals as goal

pub returns : goal.returns
returns c =
    let lt : c.from-at.result < 256 = omega (arith, c.from-at.ensures) in
    rw (← c.from-at.ensures) (search (rules, pair_at))
