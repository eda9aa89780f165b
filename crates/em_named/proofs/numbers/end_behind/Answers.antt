use Rattle.std.proofs.Common.{arith}
use Rattle.em_named.proofs.NumberLaws.{line-is}
use Rattle.em_named.proofs.numbers.end_behind.Goals as goal

pub returns-else-end-event-clause-line : goal.returns-else-end-event-clause-line
returns-else-end-event-clause-line c =
    line-is c.args.event c.loop-end-2.end.line c.args.did.now c.loop-end-2.invariant.within c.loop-end-2.invariant.before
    (λ more. omega (arith, c.if-end-event.false, c.loop-end-2.invariant.events))

pub returns-after-loop-end-2-clause-line : goal.returns-after-loop-end-2-clause-line
returns-after-loop-end-2-clause-line c =
    line-is c.args.event c.loop-end-2.end.line c.args.did.now c.loop-end-2.invariant.within c.loop-end-2.invariant.before
    (λ more. absurd (omega (arith, c.loop-end-2-test.false)))
