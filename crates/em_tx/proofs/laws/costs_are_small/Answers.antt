use Rattle.em_tx.proofs.CostLaws.{cost_most}
use Rattle.em_tx.proofs.laws.costs_are_small.Goals as goal

pub returns : goal.returns
returns c = cost_most
