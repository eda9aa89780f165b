-- What cells show with a frame more, and that they are sound.
use Rattle.std.proofs.Common.{◌≡◌, ℕ, ◌+◌, ◌≤◌, ◌<◌, List, [], ◌∷◌, ◌++◌, length, take, drop, set, sym, ap, ap₂, subst}
use Rattle.std.proofs.Common.{◌∙◌, arith, length-set}
use Rattle.std.proofs.lemmas.List.{take_at, drop_at, length-take-le, take_more_set}
use Rattle.std.proofs.lemmas.List.Sums.{sum_by_push}
use Rattle.std.proofs.lemmas.List.Elements.{All-push, All-same}
use Rattle.em_mem.specs.Memory.{put}
use Rattle.em_mem.specs.Ring.{ring_put, turn, wrap}
use Rattle.em_rx.specs.Frame.{Frame}
use Rattle.em_rx.specs.Fifo.{Cells, IsSound, IsWithin, HasRoom, after_arrival, cut, live, octets_in, shows, total}
use Rattle.em_rx.specs.declared.places.Entry.{Entry}
use Rattle.em_mem.proofs.RingLaws.{length-ring_put, length-turn, turn-ring_put, turn-set, wrap-below}
use Rattle.em_rx.proofs.CutLaws.{IsLong, cut_push, cut_same, few, octets_in-cut, within_push}

-- the octets that the places count are those of the frames
pub octets_in-shows : (c : Cells) → IsSound c → octets_in (shows c) ≡ c.places.used
octets_in-shows c sound =
    octets_in-cut (live c) (turn c.places.head c.octets)
    (omega (arith, sound.used, sound.room, sound.octets, length-turn c.places.head c.octets))
    ∙ sound.used

-- the same at the value that the cells are
pub octets_in_at : (c v : Cells) → IsSound c → c ≡ v → octets_in (shows v) ≡ c.places.used
octets_in_at c v sound is = ap (λ (x : Cells). octets_in (shows x)) (sym is) ∙ octets_in-shows c sound

-- the cells with the octets d and the entry e behind the last frame
abbrev pub with_arrival : Cells → List ℕ → Entry → Cells
with_arrival c d e = record {
  octets = ring_put c.octets (wrap 49_152 (c.places.head + c.places.used)) d;
  entries = set c.entries (wrap 877 (c.places.first + c.places.count)) e;
  places = record c.places { count = c.places.count + 1; used = c.places.used + length d };
}

module _ (c : Cells) (d : List ℕ) (e : Entry) (sound : IsSound c) (is : length d ≡ e.len)
    (room : c.places.used + length d ≤ 49_152) (long : 56 ≤ length d) where
  abbrev T : List ℕ
  T = turn c.places.head c.octets

  abbrev E : List Entry
  E = turn c.places.first c.entries

  length-T : length T ≡ 49_152
  length-T = length-turn c.places.head c.octets ∙ sound.octets

  length-E : length E ≡ 877
  length-E = length-turn c.places.first c.entries ∙ sound.entries

  -- the ring of entries has a place
  pub has_place : c.places.count < 877
  has_place =
      let n : length (live c) ≡ c.places.count
      = length-take-le c.places.count E (omega (arith, length-E, sound.count)) in
      omega (arith, few (live c) sound.least, sound.used, room, long)

  abbrev after : Cells
  after = with_arrival c d e

  octets_seen : turn c.places.head after.octets ≡ put T c.places.used d
  octets_seen =
      turn-ring_put 49_152 c.places.head c.places.used c.octets d sound.octets sound.head room (omega (arith, long))

  entries_seen : turn c.places.first after.entries ≡ set E c.places.count e
  entries_seen = turn-set 877 c.places.first c.places.count c.entries e sound.entries sound.first has_place

  live_after : live after ≡ live c ++ e ∷ []
  live_after =
      ap (take (c.places.count + 1)) entries_seen
      ∙ take_more_set E c.places.count e (omega (arith, length-E, has_place))

  length-front : length (take c.places.used T) ≡ c.places.used
  length-front = length-take-le c.places.used T (omega (arith, length-T, sound.room))

  last_is : take e.len (drop (total (live c)) (put T c.places.used d)) ≡ d
  last_is =
      let behind : drop (total (live c)) (put T c.places.used d) ≡ d ++ drop (c.places.used + length d) T
      = ap (λ (k : ℕ). drop k (put T c.places.used d)) sound.used
      ∙ drop_at (take c.places.used T) (d ++ drop (c.places.used + length d) T) c.places.used length-front in
      ap (take e.len) behind ∙ take_at d (drop (c.places.used + length d) T) e.len is

  others_stay : cut (live c) (put T c.places.used d) ≡ cut (live c) T
  others_stay =
      cut_same (live c) (put T c.places.used d) T
      (
      ap (λ (k : ℕ). take k (put T c.places.used d)) sound.used
      ∙ take_at (take c.places.used T) (d ++ drop (c.places.used + length d) T) c.places.used length-front
      ∙ ap (λ (k : ℕ). take k T) (sym sound.used)
      )

  pub arrival_shows : shows after ≡ after_arrival (shows c) (record { octets = d; tag = e.tag })
  arrival_shows =
      let frames : cut (live after) (turn c.places.head after.octets)
      ≡ cut (live c) T ++ record { octets = d; tag = e.tag } ∷ []
      = ap₂ cut live_after octets_seen
      ∙ cut_push (live c) e (put T c.places.used d)
      ∙ ap₂ (λ (fs : List Frame) (o : List ℕ). fs ++ record { octets = o; tag = e.tag } ∷ []) others_stay last_is in
      λ i. record { frames = frames i; taken = c.places.taken }

  pub arrival_sound : IsSound after
  arrival_sound = record {
    octets =
        length-ring_put c.octets (wrap 49_152 (c.places.head + c.places.used)) d (omega (arith, sound.octets, room))
        ∙ sound.octets;
    entries = length-set c.entries (wrap 877 (c.places.first + c.places.count)) e ∙ sound.entries;
    head = sound.head;
    first = sound.first;
    count = omega (arith, has_place);
    used = ap total live_after ∙ sum_by_push (λ (x : Entry). x.len) (live c) e ∙ omega (arith, sound.used, is);
    room = room;
    least =
        All-same IsLong (live after) (live c ++ e ∷ []) live_after
        (All-push IsLong (live c) e sound.least (omega (arith, is, long)));
    within =
        subst (IsWithin c.places.taken) (sym live_after)
        (within_push c.places.taken (live c) e sound.within (omega (arith, is, long)));
  }

  -- where the frame and its entry lie
  pub frame_at : wrap 49_152 (c.places.head + c.places.used) < 49_152
  frame_at = wrap-below 49_152 (c.places.head + c.places.used) (omega (arith, sound.head, room, long)) (omega arith)

  pub entry_at : wrap 877 (c.places.first + c.places.count) < 877
  entry_at = wrap-below 877 (c.places.first + c.places.count) (omega (arith, sound.first, has_place)) (omega arith)

-- a frame that has room at the value that the cells are
pub room_at : (c v : Cells) (n : ℕ) → IsSound c → c ≡ v → HasRoom (shows v) n → c.places.used + n ≤ 49_152
room_at c v n sound is room = omega (arith, octets_in_at c v sound is, room)

-- the cells are those, written one part after the other
pub arrived : (c : Cells) (d : List ℕ) (e : Entry) (k j : ℕ) (octets : List ℕ) →
    k ≡ wrap 49_152 (c.places.head + c.places.used) → j ≡ wrap 877 (c.places.first + c.places.count) →
    octets ≡ ring_put c.octets k d → (new : Cells) → new ≡ record {
      octets = octets;
      entries = set c.entries j e;
      places = record c.places { count = c.places.count + 1; used = c.places.used + length d };
    } → new ≡ with_arrival c d e
arrived c d e k j octets at index wrote new is =
    is
    ∙ (
    λ i. record {
      octets = (wrote ∙ ap (λ (n : ℕ). ring_put c.octets n d) at) i;
      entries = set c.entries (index i) e;
      places = record c.places { count = c.places.count + 1; used = c.places.used + length d };
    }
    )
