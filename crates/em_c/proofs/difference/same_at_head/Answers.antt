use Rattle.std.proofs.Common.{arith, sym}
use Rattle.em_c.proofs.DifferenceLaws.{head_is}
use Rattle.em_c.proofs.difference.same_at_head.Goals as goal

pub returns-else-old-first-clause-count : goal.returns-else-old-first-clause-count
returns-else-old-first-clause-count c =
    sym (head_is c.args.old.now c.args.new.now c.loop-first.first c.requires (omega arith)
    c.loop-first.invariant.same (λ inside. c.if-old-first.false))

pub returns-after-loop-first-clause-count : goal.returns-after-loop-first-clause-count
returns-after-loop-first-clause-count c =
    sym (head_is c.args.old.now c.args.new.now c.loop-first.first c.requires (omega arith)
    c.loop-first.invariant.same (λ inside. absurd (omega arith)))
