-- Over both parts.
use Rattle.std.proofs.Common.{arith}
use Rattle.std.proofs.lemmas.Grind.{common_steps}
use Rattle.em_mem.proofs.RingLaws.{front_over}
use Rattle.em_mem.proofs.ring.put_round.Goals as goal

pub returns-clause-parts : goal.returns-clause-parts
returns-clause-parts c =
    let parts = c.split_at.result in
    let both = front_over c.args.first.now c.args.second.now parts.0.now parts.1.now (omega arith) in
    grind (arith, common_steps, both)
