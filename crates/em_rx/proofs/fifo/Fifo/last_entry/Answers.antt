-- It lies where the places say.
use Rattle.std.proofs.Common.{rules}
use Rattle.em_rx.specs.Fifo.{Cells}
use Rattle.em_rx.proofs.LastLaws.{last_at}
use Rattle.em_rx.proofs.fifo.Fifo.last_entry.Goals as goal

pub returns : goal.returns
returns c =
    let f = c.self.inside in
    let cells : Cells = record { octets = f.octets.items; entries = f.entries.items; places = f.places } in
    last_at cells c.args.self.now c.self.invariant c.self.view_is c.requires c.wrap-index.result c.wrap-index.ensures
    c.index.result.now (search rules)
