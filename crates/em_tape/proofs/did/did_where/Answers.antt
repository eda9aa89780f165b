use Rattle.std.proofs.Common.{subst}
use Rattle.em_tape.specs.Kind.{IsKind}
use Rattle.em_tape.proofs.DidLaws.{back_did}
use Rattle.em_tape.proofs.did.did_where.Goals as goal

pub returns-in-Back-clause-is : goal.returns-in-Back-clause-is
returns-in-Back-clause-is c = λ memory parsed before kind out is.
    back_did c.args.done memory parsed before c.args.seen c.took_back.result
    (subst (λ k. IsKind k parsed) c.in-Back.is kind) out is c.took_back.ensures.is
