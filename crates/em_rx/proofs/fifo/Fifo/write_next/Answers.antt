-- The octets lie behind those that were taken.
use Rattle.std.proofs.Common.{ℕ, List, ap, ap₂, ◌∙◌}
use Rattle.em_mem.specs.Memory.{put}
use Rattle.em_mem.specs.Ring.{ring_part}
use Rattle.em_rx.specs.Fifo.{Cells}
use Rattle.em_rx.proofs.DeliveryLaws.{next_at}
use Rattle.em_rx.proofs.fifo.Fifo.write_next.Goals as goal

pub returns-clause-octets : goal.returns-clause-octets
returns-clause-octets c =
    let f = c.self.inside in
    let n = c.args.count in
    let cells : Cells = record { octets = f.octets.items; entries = f.entries.items; places = f.places } in
    let here = next_at cells c.args.self.now c.self.invariant c.self.view_is c.requires.some n c.requires.count in
    let place = ap₂ (λ (ring : List ℕ) (at : ℕ). ring_part ring at n) c.as_slice.ensures.value c.wrap-at.ensures in
    c.write_both.ensures.octets ∙ ap (put c.args.memory.now.octets c.args.addr) (c.pieces.ensures ∙ place ∙ here)
