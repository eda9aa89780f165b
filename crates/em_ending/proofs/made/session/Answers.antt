use Rattle.std.proofs.Common.{arith, inr, rules}
use Rattle.em_ending.proofs.made.session.Goals as goal

pub returns-in-Err-clause-err : goal.returns-in-Err-clause-err
returns-in-Err-clause-err c =
    inr (omega arith, (c.in-Err.refusal, c.in-Err.ensures.err, search rules))
