use Rattle.std.proofs.Common.{◌≡◌, ◌+◌, ◌∙◌, Bool, length, ap, sym}
use Rattle.std.specs.Prelude.{if◌then◌else◌}
use Rattle.em_tx.specs.Before.{has_sent}
use Rattle.em_tx.specs.Undo.{undo_change}
use Rattle.em_tx.proofs.BeforeLaws.{wire_taken}
use Rattle.em_tx.proofs.change.Change.has_sent.Goals as goal

pub returns-clause-before : goal.returns-clause-before
returns-clause-before c =
    let is : has_sent c.args.self.now.sent ≡ c.is_frame.result
    = ap has_sent (sym c.sent.ensures) ∙ sym c.is_frame.ensures in
    λ cells fits. wire_taken cells c.args.self.now.count c.args.self.now.sent fits.0
    ∙ ap (λ (b : Bool). length (undo_change cells c.args.self.now).wire + (if b then 1 else 0)) is
