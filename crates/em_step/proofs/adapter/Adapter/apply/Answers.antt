-- No event costs more than the most.
use Rattle.em_step.proofs.CostLaws.{performed_most}
use Rattle.em_step.proofs.adapter.Adapter.apply.Goals as goal

pub invariant_of-result : goal.invariant_of-result
invariant_of-result c = (c.in_ok-answer.ensures.room, performed_most c.in_ok-answer.ensures.ok)
