use Rattle.std.proofs.Common.{◌∙◌, ap, arith, sym}
use Rattle.em_step.specs.Cost.{cost_of}
use Rattle.em_step.specs.Undo.{Undo}
use Rattle.em_step.proofs.CostLaws.{cost_as}
use Rattle.em_step.proofs.undo.Undo.cost.Goals as goal

pub returns-clause-cost : goal.returns-clause-cost
returns-clause-cost c =
    c.cost.ensures.cost ∙ sym (cost_as c.self.inside.record c.self.inside.old c.self.invariant.0)
    ∙ ap (λ (u : Undo). cost_of u) c.self.view_is

pub returns-clause-most : goal.returns-clause-most
returns-clause-most c =
    omega (arith, c.cost.ensures.cost, cost_as c.self.inside.record c.self.inside.old c.self.invariant.0, c.self.invariant.1)
