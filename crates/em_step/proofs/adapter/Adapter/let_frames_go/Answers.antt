use Rattle.std.proofs.Common.{◌∙◌, ap}
use Rattle.em_step.specs.Cells.{Cells, cells_without}
use Rattle.em_step.specs.contracts.adapter.Adapter.{the_view}
use Rattle.em_step.proofs.adapter.Adapter.let_frames_go.Goals as goal

pub returns : goal.returns
returns c =
    let was : Cells = the_view c.self.inside in
    (λ i. record was { wire = c.let_go.ensures i }) ∙ ap (cells_without c.args.count) c.self.view_is
