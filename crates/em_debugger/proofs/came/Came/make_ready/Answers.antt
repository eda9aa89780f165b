use Rattle.std.proofs.Common.{◌∙◌, ap}
use Rattle.em_debugger.specs.Came.{came_of}
use Rattle.em_debugger.proofs.CameLaws.{came-pushed}
use Rattle.em_debugger.proofs.came.Came.make_ready.Goals as goal

pub loop-self-preserved : goal.loop-self-preserved
loop-self-preserved c n =
    ap (λ items. came_of n items) c.in-Ok.ensures.items ∙ came-pushed n c.loop-self.self.outcomes.items
    ∙ c.loop-self.invariant n
