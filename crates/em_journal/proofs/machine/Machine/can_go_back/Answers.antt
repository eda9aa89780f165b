use Rattle.std.proofs.Common.{◌∙◌, sym, ap, length, arith}
use Rattle.em_journal.specs.Records.{undos_of}
use Rattle.em_journal.proofs.RecordsLaws.{length-back_through, length-undos_of}
use Rattle.em_journal.proofs.BudgetLaws.{length-costs_of, sum_least}
use Rattle.em_journal.proofs.machine.Machine.can_go_back.Goals as goal

pub returns-clause-past : goal.returns-clause-past
returns-clause-past c =
    c.len.ensures.len
    ∙ sym (length-undos_of c.self.inside.records.ring.items c.self.inside.records.octets)
    ∙ sym (length-back_through c.self.inside.adapter (undos_of c.self.inside.records.ring.items c.self.inside.records.octets))
    ∙ ap (λ v. length v.past) c.self.view_is

pub returns-clause-costs : goal.returns-clause-costs
returns-clause-costs c =
    c.len.ensures.len
    ∙ sym (length-undos_of c.self.inside.records.ring.items c.self.inside.records.octets)
    ∙ sym (length-costs_of (undos_of c.self.inside.records.ring.items c.self.inside.records.octets)) ∙ ap (λ v. length v.costs) c.self.view_is

-- none costs less than the least, and the budget holds them all
pub returns-clause-places : goal.returns-clause-places
returns-clause-places c =
    omega (
      arith,
      c.len.ensures.len,
      sum_least c.self.inside.records.ring.items,
      c.self.invariant.1.counted,
      c.self.invariant.0.held,
      ap (λ v. v.budget) c.self.view_is,
    )
