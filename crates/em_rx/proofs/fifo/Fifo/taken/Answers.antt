use Rattle.std.proofs.Common.{subst}
use Rattle.em_rx.specs.Fifo.{Cells, IsFifo, shows}
use Rattle.em_rx.proofs.StoredLaws.{is_fifo}
use Rattle.em_rx.proofs.fifo.Fifo.taken.Goals as goal

pub returns-clause-fifo : goal.returns-clause-fifo
returns-clause-fifo c =
    subst (λ (x : Cells). IsFifo (shows x)) c.self.view_is (is_fifo _ c.self.invariant)
