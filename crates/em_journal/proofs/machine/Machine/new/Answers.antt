use Rattle.std.proofs.Common.{rules, ap, arith, ◌∙◌}
use Rattle.em_journal.specs.Budget.{IsBudget}
use Rattle.em_journal.proofs.RecordsLaws.{opened}
use Rattle.em_journal.proofs.machine.Machine.new.Goals as goal

pub returns-in_default-first_octets-clause-refused : goal.returns-in_default-first_octets-clause-refused
returns-in_default-first_octets-clause-refused c =
    let allowed : IsBudget c.args.budget = search rules in
    (λ same within. cc, λ none. absurd (none allowed))

pub invariant_of-result : goal.invariant_of-result
invariant_of-result c =
    let allowed : IsBudget c.args.budget = search rules in
    let places = ap (λ b. b.capacity) c.in-Ok-with_capacity.ensures ∙ c.most_records-places.ensures in
    opened (ap (λ b. b.items) c.in-Ok.ensures) places allowed c.in-Ok-first_octets.ensures
