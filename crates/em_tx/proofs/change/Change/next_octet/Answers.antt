use Rattle.std.proofs.Common.{◌∙◌, ap, sym, subst}
use Rattle.em_mem.specs.Extent.{SameUpTo}
use Rattle.em_tx.specs.Before.{next_of_status}
use Rattle.em_tx.specs.Undo.{undo_change}
use Rattle.em_tx.proofs.BeforeLaws.{status_same}
use Rattle.em_tx.proofs.change.Change.next_octet.Goals as goal

pub returns-clause-next : goal.returns-clause-next
returns-clause-next c =
    c.next_of_status.ensures ∙ ap (λ status. next_of_status status c.args.addr) c.status.ensures

pub returns-clause-same : goal.returns-clause-same
returns-clause-same c = λ cells fits.
    subst (SameUpTo cells.memory.octets (undo_change cells c.args.self.now).memory.octets c.args.addr)
    (sym (returns-clause-next c)) (status_same c.args.self.now.status cells.memory c.args.addr fits.1)
