use Rattle.std.proofs.Common.{rules, ◌<◌, arith}
use Rattle.em_text.proofs.DigitsLemmas.{table_at}
use Rattle.em_text.proofs.digits.value_of.Goals as goal

pub returns : goal.returns
returns c =
    let lt : c.from.result < 256 = omega (arith, c.from.ensures) in
    rw (← c.from.ensures) (search (rules, table_at))
