-- The places count the octets of the frames.
use Rattle.std.proofs.Common.{rules}
use Rattle.em_rx.specs.Fifo.{Cells}
use Rattle.em_rx.proofs.ArrivalLaws.{octets_in_at}
use Rattle.em_rx.proofs.fifo.Fifo.room.Goals as goal

pub returns : goal.returns
returns c =
    let f = c.self.inside in
    let cells : Cells = record { octets = f.octets.items; entries = f.entries.items; places = f.places } in
    rw (octets_in_at cells c.args.self.now c.self.invariant c.self.view_is) (search rules)
