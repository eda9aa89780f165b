-- Frames of a capture that are read one after another.
use Rattle.std.proofs.Common.{◌≡◌, ◌∙◌, [], ◌∷◌, ◌++◌, map, append_assoc, None, sym, ap}
use Rattle.em_pcap.specs.Frame.{Frame}
use Rattle.em_pcap.specs.Reading.{Reading, and_then}
use Rattle.em_c.specs.declared.captured.Frames.{Frames}
use Rattle.em_c.specs.Pcap.{frame_in}

-- these frames were read, and that is left
pub record ReadSo (reading : Reading) (f : Frames) (left : Reading) : Type 0 where
  pub all : reading ≡ record { packets = map frame_in f.queue.items ++ left.packets; fault = left.fault }
  pub good : f.fault ≡ None

pub ReadSo-none : (reading : Reading) (f : Frames) → f.queue.items ≡ [] → f.fault ≡ None → ReadSo reading f reading
ReadSo-none reading f none good = record {
  all = ap (λ items. record { packets = map frame_in items ++ reading.packets; fault = reading.fault }) (sym none);
  good = good;
}

-- one frame more
pub ReadSo-more : (reading : Reading) (f g : Frames) (left rest : Reading) (frame : Frame) → ReadSo reading f left
    → left ≡ and_then frame rest → map frame_in g.queue.items ≡ map frame_in f.queue.items ++ frame ∷ []
    → g.fault ≡ f.fault → ReadSo reading g rest
ReadSo-more reading f g left rest frame h is items fault = record {
  all = h.all
      ∙ ap (λ (l : Reading). record { packets = map frame_in f.queue.items ++ l.packets; fault = l.fault }) is
      ∙ ap (λ l. record { packets = l; fault = rest.fault }) (sym (append_assoc (map frame_in f.queue.items) (frame ∷ [])
      rest.packets))
      ∙ ap (λ l. record { packets = l ++ rest.packets; fault = rest.fault }) (sym items);
  good = fault ∙ h.good;
}
