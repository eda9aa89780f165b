use Rattle.std.proofs.Common.{arith, refl}
use Rattle.em_c.proofs.watch.phy_watch.Goals as goal

pub returns-clause-ok : goal.returns-clause-ok
returns-clause-ok c =
    (c.in-Some.word, refl, omega (arith, c.in-Some.ensures.number, c.if-number-gt-LAST_PHY_WORD.false))
