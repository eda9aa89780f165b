-- The end of a descriptor is that of its 16 octets.
use Rattle.std.proofs.Common.{◌∙◌, ap, ℕ}
use Rattle.em_mem.specs.Memory.{part}
use Rattle.em_rx.specs.Descriptor.{marked_done}
use Rattle.em_rx.proofs.ControlLaws.{end_is}
use Rattle.em_rx.proofs.fifo.Fifo.null_piece.Goals as goal

pub returns-clause-end : goal.returns-clause-end
returns-clause-end c =
    c.marked_done-end.ensures
    ∙ ap marked_done
    (
    c.read_array-octets.ensures
    ∙ ap (λ (k : ℕ). part c.args.memory.now.octets k 8) c.end_at-end_at.ensures
    ∙ end_is c.args.memory.now.octets c.args.found.at
    )
