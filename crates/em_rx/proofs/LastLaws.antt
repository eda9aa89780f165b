-- The newest frame.
use Rattle.std.proofs.Common.{◌≡◌, ℕ, suc, ◌+◌, ◌-◌, ◌<◌, List, [], ◌∷◌, ◌++◌, None, length, take, drop, get_or}
use Rattle.std.proofs.Common.{refl, sym, ap, subst, ◌∙◌, arith, length-append, length-drop}
use Rattle.std.proofs.Math.Seq.{take-suc}
use Rattle.std.proofs.lemmas.List.{get_or_append_left, get_or-append_right, get_or-drop, take-append-le}
use Rattle.std.proofs.lemmas.List.Sums.{sum_by-append, sum_by-cons}
use Rattle.em_mem.specs.Ring.{ring_part, turn, wrap}
use Rattle.em_rx.specs.Frame.{Frame}
use Rattle.em_rx.specs.Fifo.{Cells, IsLast, IsSound, cut, last, live, shows, total}
use Rattle.em_rx.specs.declared.places.Entry.{Entry}
use Rattle.em_mem.proofs.RingLaws.{length-turn, turn-wrap, wrap-below}
use Rattle.em_rx.proofs.CutLaws.{cut_push}
use Rattle.em_rx.proofs.DeliveryLaws.{frames_are}

-- a list that is seen from place k on begins there
turn-head : {A : Type 0} (k : ℕ) (xs : List A) (d : A) → k < length xs → get_or (turn k xs) 0 d ≡ get_or xs k d
turn-head k xs d inside =
    get_or_append_left (drop k xs) (take k xs) d 0 (omega (arith, length-drop k xs, inside))
    ∙ get_or-drop k xs 0 d
    ∙ ap (λ (n : ℕ). get_or xs n d) (omega arith)

abbrev no_frame : Frame
no_frame = record { octets = []; tag = None }

end_of : (fs : List Frame) (f : Frame) → get_or (fs ++ f ∷ []) (length (fs ++ f ∷ []) - 1) no_frame ≡ f
end_of fs f =
    let size = length-append fs (f ∷ []) in
    let rest : length (fs ++ f ∷ []) - 1 - length fs ≡ 0 = omega (arith, size) in
    get_or-append_right fs (f ∷ []) (length fs) (length (fs ++ f ∷ []) - 1) no_frame refl (omega (arith, size))
    ∙ ap (λ (n : ℕ). get_or (f ∷ []) n no_frame) rest

module _ (c : Cells) (sound : IsSound c) (some : 0 < c.places.count) (d : Entry) where
  abbrev T : List ℕ
  T = turn c.places.head c.octets

  abbrev E : List Entry
  E = turn c.places.first c.entries

  abbrev before : List Entry
  before = take (c.places.count - 1) E

  abbrev newest : Entry
  newest = get_or c.entries (wrap 877 (c.places.first + (c.places.count - 1))) d

  length-T : length T ≡ 49_152
  length-T = length-turn c.places.head c.octets ∙ sound.octets

  length-E : length E ≡ 877
  length-E = length-turn c.places.first c.entries ∙ sound.entries

  entry_is : get_or E (c.places.count - 1) d ≡ newest
  entry_is =
      let k = c.places.count - 1 in
      let place = wrap-below 877 (c.places.first + k) (omega (arith, sound.first, sound.count, some)) (omega arith) in
      sym (turn-head k E d (omega (arith, length-E, sound.count, some)))
      ∙ ap (λ (xs : List Entry). get_or xs 0 d) (sym (turn-wrap 877 c.places.first k c.entries sound.entries sound.first
      (omega (arith, sound.count))))
      ∙ turn-head (wrap 877 (c.places.first + k)) c.entries d (omega (arith, place, sound.entries))

  live_is : live c ≡ before ++ newest ∷ []
  live_is =
      let whole : c.places.count ≡ suc (c.places.count - 1) = omega (arith, some) in
      ap (λ (n : ℕ). take n E) whole
      ∙ take-suc E (c.places.count - 1) d (omega (arith, length-E, sound.count, some))
      ∙ ap (λ (e : Entry). before ++ e ∷ []) entry_is

  used_is : total before + newest.len ≡ c.places.used
  used_is =
      let one : total (newest ∷ []) ≡ newest.len + 0 = sum_by-cons (λ (e : Entry). e.len) newest [] in
      omega (arith, one, sum_by-append (λ (e : Entry). e.len) before (newest ∷ []), ap total live_is, sound.used)

  frame_is : last (shows c) ≡ record { octets = take newest.len (drop (total before) T); tag = newest.tag }
  frame_is =
      ap (λ (fs : List Frame). get_or fs (length fs - 1) no_frame) (ap (λ (es : List Entry). cut es T) live_is
      ∙ cut_push before newest T)
      ∙ end_of (cut before T) _

  octets_are : ring_part c.octets (wrap 49_152 (c.places.head + (c.places.used - newest.len))) newest.len
      ≡ (last (shows c)).octets
  octets_are =
      let t : ℕ = total before in
      let place : c.places.used - newest.len ≡ t = omega (arith, used_is) in
      let seen : turn (wrap 49_152 (c.places.head + t)) c.octets ≡ turn t T
      = turn-wrap 49_152 c.places.head t c.octets sound.octets sound.head (omega (arith, used_is, sound.room)) in
      ap (λ (n : ℕ). ring_part c.octets (wrap 49_152 (c.places.head + n)) newest.len) place
      ∙ ap (take newest.len) seen
      ∙ take-append-le newest.len (drop t T) (take t T) (omega (arith, length-drop t T, length-T, used_is, sound.room))
      ∙ sym (ap (λ (f : Frame). f.octets) frame_is)

  is_last : IsLast c newest
  is_last = record {
    tag = sym (ap (λ (f : Frame). f.tag) frame_is);
    used = omega (arith, used_is);
    octets = octets_are;
  }

pub last_at : (c v : Cells) → IsSound c → c ≡ v → 0 < length (shows v).frames → (index : ℕ)
    → index ≡ wrap 877 (c.places.first + (c.places.count - 1)) → (e : Entry) → e ≡ get_or c.entries index e → IsLast v e
last_at c v sound is frames index at e read =
    let some : 0 < c.places.count
    = omega (arith, frames_are c sound, ap (λ (x : Cells). length (shows x).frames) is, frames) in
    subst (λ (x : Cells). IsLast x e) is
    (subst (IsLast c) (sym (read ∙ ap (λ (n : ℕ). get_or c.entries n e) at)) (is_last c sound some e))
