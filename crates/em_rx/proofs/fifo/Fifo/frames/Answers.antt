use Rattle.std.proofs.Common.{◌∙◌, ap, sym, length}
use Rattle.em_rx.specs.Fifo.{Cells, shows}
use Rattle.em_rx.proofs.BeforeLaws.{length-frames}
use Rattle.em_rx.proofs.fifo.Fifo.frames.Goals as goal

pub returns : goal.returns
returns c =
    let view : Cells = record {
      octets = c.self.inside.octets.items;
      entries = c.self.inside.entries.items;
      places = c.self.inside.places;
    } in
    sym (length-frames view c.self.invariant) ∙ ap (λ (cells : Cells). length (shows cells).frames) c.self.view_is
