use Rattle.std.proofs.Common.{sym, ap, ◌∙◌, arith}
use Rattle.std.specs.Prelude.{sum}
use Rattle.em_journal.specs.Records.{costs_by}
use Rattle.em_journal.proofs.BudgetLaws.{sum_without_last}
use Rattle.em_journal.proofs.records.drop_one.Goals as goal

pub returns-clause-cost : goal.returns-clause-cost
returns-clause-cost c =
    let last = sym c.pop_back.ensures.value ∙ c.in-Some.is in
    let left = sum_without_last c.args.records.now.items c.in-Some.oldest c.requires last in
    omega (arith, left, ap (λ b. sum (costs_by b.items)) c.pop_back.ensures.items)
