use Rattle.std.proofs.Common.{arith, sym}
use Rattle.em_c.proofs.DifferenceLaws.{last_is}
use Rattle.em_c.proofs.difference.up_to_last.Goals as goal

pub returns-else-old-last-clause-count : goal.returns-else-old-last-clause-count
returns-else-old-last-clause-count c =
    sym (last_is c.args.old.now c.args.new.now c.loop-last.last c.requires (omega arith)
    c.loop-last.invariant.same (λ some. c.if-old-last.false))

pub returns-after-loop-last-clause-count : goal.returns-after-loop-last-clause-count
returns-after-loop-last-clause-count c =
    sym (last_is c.args.old.now c.args.new.now c.loop-last.last c.requires (omega arith)
    c.loop-last.invariant.same (λ some. absurd (omega arith)))
