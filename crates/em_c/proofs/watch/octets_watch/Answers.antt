use Rattle.std.proofs.Common.{refl}
use Rattle.em_c.proofs.watch.octets_watch.Goals as goal

pub returns-clause-ok : goal.returns-clause-ok
returns-clause-ok c =
    let given = c.in-Some.ensures in
    (c.in-Some.range, refl, given.addr, given.len, c.leaves.ensures.lies c.if-leaves.false)
