use Rattle.std.proofs.Common.{◌∙◌, ap}
use Rattle.em_debugger.specs.Warnings.{said_behind}
use Rattle.em_debugger.proofs.WarningsLaws.{said-pushed}
use Rattle.em_debugger.proofs.warnings.Warnings.make_place.Goals as goal

pub loop-self-preserved : goal.loop-self-preserved
loop-self-preserved c = record {
  stay = λ k. ap (λ lines. said_behind k lines) c.in-Ok.ensures.items
      ∙ said-pushed c.loop-self.self.lines.items k ∙ c.loop-self.invariant.stay k;
  room = c.loop-self.invariant.room;
}
