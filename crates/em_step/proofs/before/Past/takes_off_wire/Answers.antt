use Rattle.std.proofs.Common.{◌∙◌, ◌+◌, ap, length, sym}
use Rattle.std.specs.Prelude.{if◌then◌else◌}
use Rattle.em_step.specs.Cells.{shows}
use Rattle.em_step.specs.Undo.{undo}
use Rattle.em_step.proofs.BeforeLaws.{wire_put_back}
use Rattle.em_step.proofs.before.Past.takes_off_wire.Goals as goal

pub returns-clause-before : goal.returns-clause-before
returns-clause-before c = λ cells fits.
    wire_put_back c.args.self.now cells fits
    ∙ ap (λ b. length (shows (undo cells c.args.self.now)).wire + (if b then 1 else 0)) (sym c.has_sent.ensures)
