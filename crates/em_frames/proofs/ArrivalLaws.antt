-- Frames that are read one after another.
use Rattle.std.proofs.Common.{◌≡◌, ◌∙◌, ℕ, ◌+◌, Bool, true, false, cond, List, [], ◌∷◌, ◌++◌, length, map, append-nil, append_assoc}
use Rattle.std.proofs.Common.{Option, None, refl, sym, ap, arith}
use Rattle.std.specs.Prelude.{filter}
use Rattle.std.proofs.lemmas.List.{length-append, map-append}
use Rattle.std.proofs.lemmas.List.Elements.{filter-append}
use Rattle.em_turn.specs.Planned.{lists}
use Rattle.em_pcap.specs.declared.fault.CaptureError.{CaptureError}
use Rattle.em_pcap.specs.Frame.{Frame}
use Rattle.em_pcap.specs.Reading.{Reading, and_then}
use Rattle.em_frames.specs.declared.arrivals.Arrivals.{Arrivals}
use Rattle.em_frames.specs.Arrivals.{AreArrivals, EndsBy, arrival_of, counted, is_cut, is_unpadded, with_frame, with_padded}

-- these frames were read, and that is left
pub record ReadSo (reading : Reading) (a : Arrivals) (left : Reading) : Type 0 where
  pub given : List Frame
  pub all : reading ≡ record { packets = given ++ left.packets; fault = left.fault }
  pub lines : lists a.lines.items ≡ map arrival_of given
  pub cut : a.cut ≡ counted (length (filter is_cut given))
  pub padded : a.padded ≡ counted (length (filter is_unpadded given))
  pub error : a.error ≡ None

pub ReadSo-none : (reading : Reading) (a : Arrivals) → a.lines.items ≡ [] → a.cut ≡ 0 → a.padded ≡ 0
    → a.error ≡ None → ReadSo reading a reading
ReadSo-none reading a none zero unpadded good = record {
  given = [];
  all = refl;
  lines = ap lists none;
  cut = zero;
  padded = unpadded;
  error = good;
}

-- how many are so, by whether the next one is
so_more : (is_so : Frame → Bool) (given : List Frame) (frame : Frame) (old new : ℕ) (is : Bool) → is_so frame ≡ is
    → old ≡ counted (length (filter is_so given)) → new ≡ cond is (counted (old + 1)) old
    → new ≡ counted (length (filter is_so given ++ cond is (frame ∷ []) []))
so_more is_so given frame old new true same was now =
    let long = length-append (filter is_so given) (frame ∷ []) in omega (arith, long, was, now)
so_more is_so given frame old new false same was now =
    now ∙ was ∙ ap (λ l. counted (length l)) (sym (append-nil (filter is_so given)))

-- one frame more
pub ReadSo-more : (reading : Reading) (a b : Arrivals) (left rest : Reading) (frame : Frame) → ReadSo reading a left
    → left ≡ and_then frame rest → lists b.lines.items ≡ lists a.lines.items ++ arrival_of frame ∷ []
    → b.error ≡ a.error → b.cut ≡ with_frame a.cut frame → b.padded ≡ with_padded a.padded frame
    → ReadSo reading b rest
ReadSo-more reading a b left rest frame h is lines error cut padded = record {
  given = h.given ++ frame ∷ [];
  all = h.all ∙ ap (λ (l : Reading). record { packets = h.given ++ l.packets; fault = l.fault }) is
      ∙ ap (λ l. record { packets = l; fault = rest.fault }) (sym (append_assoc h.given (frame ∷ []) rest.packets));
  lines = lines ∙ ap (λ l. l ++ arrival_of frame ∷ []) h.lines ∙ sym (map-append arrival_of h.given (frame ∷ []));
  cut = so_more is_cut h.given frame a.cut b.cut (is_cut frame) refl h.cut cut
      ∙ ap (λ l. counted (length l)) (sym (filter-append is_cut h.given (frame ∷ [])));
  padded = so_more is_unpadded h.given frame a.padded b.padded (is_unpadded frame) refl h.padded padded
      ∙ ap (λ l. counted (length l)) (sym (filter-append is_unpadded h.given (frame ∷ [])));
  error = error ∙ h.error;
}

-- and then it ended so
pub ReadSo-end : (reading : Reading) (a b : Arrivals) (left : Reading) (error : Option CaptureError)
    → ReadSo reading a left → b.lines.items ≡ a.lines.items → b.cut ≡ a.cut → b.padded ≡ a.padded
    → b.error ≡ error → EndsBy b.error left → AreArrivals reading b
ReadSo-end reading a b left error h lines cut padded is ended = record {
  given = h.given;
  rest = left;
  all = h.all;
  lines = ap lists lines ∙ h.lines;
  cut = cut ∙ h.cut;
  padded = padded ∙ h.padded;
  ended = ended;
}
