use Rattle.std.proofs.Common.{◌∙◌, ap}
use Rattle.em_tx.specs.Before.{laid_status}
use Rattle.em_tx.proofs.BeforeLaws.{status_window}
use Rattle.em_tx.proofs.change.Change.lay_over.Goals as goal

pub returns-clause-octets : goal.returns-clause-octets
returns-clause-octets c =
    c.lay_status.ensures ∙ ap (λ status. laid_status status c.args.addr c.args.window.now) c.status.ensures

pub returns-clause-before : goal.returns-clause-before
returns-clause-before c = λ cells fits window.
    status_window c.args.self.now.status cells.memory c.args.addr c.args.window.now c.lay_status.new.window
    (returns-clause-octets c) fits.1 window
