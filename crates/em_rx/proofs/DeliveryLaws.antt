-- What cells show after octets of the first frame went into guest memory, and that they are sound.
use Rattle.std.proofs.Common.{◌≡◌, ℕ, ◌+◌, ◌-◌, ◌≤◌, ◌<◌, Bool, true, false, nat_le, nat_lt, List, [], ◌∷◌}
use Rattle.std.proofs.Common.{if◌then◌else◌, inl, inr, length, take, drop, get_or, refl, sym, ap, subst, ◌∙◌, arith, length-drop}
use Rattle.std.proofs.lemmas.List.{length-take-le, take-append-le, take-take, drop-take, drop_more, get_or-take}
use Rattle.std.proofs.lemmas.List.{get_or_append_left, get_or-drop}
use Rattle.std.proofs.lemmas.List.Sums.{sum_by-cons}
use Rattle.std.proofs.lemmas.List.Elements.{All-head, All-same, All-tail}
use Rattle.std.proofs.lemmas.Bool.{cases_lt}
use Rattle.std.proofs.lemmas.Bool.Decides.{nat_tests}
use Rattle.std.specs.Prelude.{All, None}
use Rattle.em_mem.specs.Memory.{part}
use Rattle.em_mem.specs.Ring.{ring_part, turn, wrap}
use Rattle.em_rx.specs.Frame.{Frame}
use Rattle.em_rx.specs.Fifo.{Cells, Fifo, IsFirst, IsSound, IsWithin, cut, first, live, next, rest, shows, total}
use Rattle.em_rx.specs.Undo.{IsMove, entry_left, moved_back, places_with_first}
use Rattle.em_mem.specs.OldOctets.{back_by}
use Rattle.em_rx.specs.declared.places.Entry.{Entry}
use Rattle.em_rx.specs.declared.places.Places.{Places}
use Rattle.em_mem.proofs.RingLaws.{length-turn, turn-wrap, wrap-below}
use Rattle.em_rx.proofs.CutLaws.{IsLong, cut_same, length-cut}

-- the places with the first frame gone, which has n octets
abbrev pub places_left : Places → ℕ → Places
places_left p n = record {
  head = wrap 49_152 (p.head + n);
  first = wrap 877 (p.first + 1);
  count = p.count - 1;
  taken = 0;
  used = p.used - n;
}

-- a place, and then the place before it
back_by-wrap : (size k n : ℕ) → k < size → n ≤ size → back_by size n (wrap size (k + n)) ≡ k
back_by-wrap size k n inside less = elim (cases_lt (k + n) size) [
  | inl low ↦
      let w : wrap size (k + n) ≡ k + n = grind (arith, nat_tests) in
      let b : back_by size n (k + n) ≡ k + n - n = grind (arith, nat_tests) in
      ap (back_by size n) w ∙ b ∙ omega arith
  | inr high ↦
      let w : wrap size (k + n) ≡ k + n - size = grind (arith, nat_tests) in
      let b : back_by size n (k + n - size) ≡ k + n - size + size - n = grind (arith, nat_tests) in
      ap (back_by size n) w ∙ b ∙ omega arith
]

-- frames are as many as the places count
pub frames_are : (c : Cells) → IsSound c → length (shows c).frames ≡ c.places.count
frames_are c sound =
    length-cut (live c) (turn c.places.head c.octets)
    ∙ length-take-le c.places.count (turn c.places.first c.entries)
    (omega (arith, length-turn c.places.first c.entries, sound.entries, sound.count))

-- the first entry lies where the places say
first_is : (c : Cells) → IsSound c → (d : Entry) → 0 < c.places.count →
    live c ≡ get_or c.entries c.places.first d ∷ drop 1 (live c)
first_is c sound d some =
    let seen : List Entry = turn c.places.first c.entries in
    let size = length-turn c.places.first c.entries ∙ sound.entries in
    let count = length-take-le c.places.count seen (omega (arith, sound.count)) in
    let read : get_or (live c) 0 d ≡ get_or c.entries c.places.first d
    = get_or-take c.places.count seen 0 d some
    ∙ get_or_append_left (drop c.places.first c.entries) (take c.places.first c.entries) d 0
    (omega (arith, length-drop c.places.first c.entries, sound.first, sound.entries))
    ∙ get_or-drop c.places.first c.entries 0 d
    ∙ ap (λ (k : ℕ). get_or c.entries k d) (omega arith) in
    drop_more (live c) 0 d (omega arith) ∙ ap (λ (x : Entry). x ∷ drop 1 (live c)) read

module _ (c : Cells) (sound : IsSound c) (e : Entry) (es : List Entry) (is : live c ≡ e ∷ es) where
  abbrev T : List ℕ
  T = turn c.places.head c.octets

  abbrev E : List Entry
  E = turn c.places.first c.entries

  length-T : length T ≡ 49_152
  length-T = length-turn c.places.head c.octets ∙ sound.octets

  length-E : length E ≡ 877
  length-E = length-turn c.places.first c.entries ∙ sound.entries

  used_is : e.len + total es ≡ c.places.used
  used_is = sym (sum_by-cons (λ (x : Entry). x.len) e es) ∙ sym (ap total is) ∙ sound.used

  taken_below : c.places.taken < e.len
  taken_below = subst (IsWithin c.places.taken) is sound.within

  frame_is : first (shows c) ≡ record { octets = take e.len T; tag = e.tag }
  frame_is = ap (λ (xs : List Entry). first (record { frames = cut xs T; taken = c.places.taken })) is

  length-frame : length (take e.len T) ≡ e.len
  length-frame = length-take-le e.len T (omega (arith, length-T, used_is, sound.room))

  len_is : e.len ≡ length (first (shows c)).octets
  len_is = sym length-frame ∙ ap (λ (f : Frame). length f.octets) (sym frame_is)

  first_sound : IsFirst c e
  first_sound = record {
    len = len_is;
    tag = ap (λ (f : Frame). f.tag) (sym frame_is);
    taken = taken_below;
    used = omega (arith, used_is);
  }

  -- the next octets of it lie behind those that were taken
  next_is : (n : ℕ) → c.places.taken + n ≤ e.len →
      ring_part c.octets (wrap 49_152 (c.places.head + c.places.taken)) n ≡ next (shows c) n
  next_is n h =
      let t = c.places.taken in
      let inside : t ≤ 49_152 = omega (arith, used_is, sound.room, taken_below) in
      let seen : turn (wrap 49_152 (c.places.head + t)) c.octets ≡ turn t T
      = turn-wrap 49_152 c.places.head t c.octets sound.octets sound.head inside in
      let here : take n (turn t T) ≡ take n (drop t T)
      = take-append-le n (drop t T) (take t T) (omega (arith, length-drop t T, length-T, used_is, sound.room)) in
      let cut_out : drop t (take e.len T) ≡ take (e.len - t) (drop t T)
      = ap (λ (k : ℕ). drop t (take k T)) (omega (arith, taken_below)) ∙ drop-take t (e.len - t) T in
      ap (take n) seen
      ∙ here
      ∙ sym (take-take n (e.len - t) (drop t T) (omega arith))
      ∙ ap (take n) (sym cut_out)
      ∙ ap (λ (f : Frame). part f.octets t n) (sym frame_is)

  -- not the last octet
  module _ (n : ℕ) (below : c.places.taken + n < e.len) where
    abbrev more : Cells
    more = record c { places = record c.places { taken = c.places.taken + n } }

    more_sound : IsSound more
    more_sound = record {
      octets = sound.octets;
      entries = sound.entries;
      head = sound.head;
      first = sound.first;
      count = sound.count;
      used = sound.used;
      room = sound.room;
      least = sound.least;
      within = subst (IsWithin (c.places.taken + n)) (sym is) below;
    }

    test : nat_lt (c.places.taken + n) (length (first (shows c)).octets) ≡ true
    test = ap (nat_lt (c.places.taken + n)) (sym len_is) ∙ grind (arith, nat_tests)

    more_moves : IsMove c (record c.places { taken = c.places.taken + n }) n
    more_moves = record {
      sound = more_sound;
      shown =
          ap
          (
          λ (b : Bool).
          let s : Fifo = if b then shows more else record { frames = drop 1 (shows c).frames; taken = 0 } in
          s
          )
          (sym test);
    }

  -- the last octet
  module _ (n : ℕ) (all : e.len ≤ c.places.taken + n) (some : 0 < c.places.count) where
    abbrev gone : Cells
    gone = record c { places = places_left c.places e.len }

    live_gone : live gone ≡ es
    live_gone =
        let k = c.places.count - 1 in
        let seen = turn-wrap 877 c.places.first 1 c.entries sound.entries sound.first (omega arith) in
        ap (take k) seen
        ∙ take-append-le k (drop 1 E) (take 1 E) (omega (arith, length-drop 1 E, length-E, sound.count))
        ∙ sym (drop-take 1 k E)
        ∙ ap (λ (i : ℕ). drop 1 (take i E)) (omega arith)
        ∙ ap (drop 1) is

    cut_gone : cut es (turn (wrap 49_152 (c.places.head + e.len)) c.octets) ≡ cut es (drop e.len T)
    cut_gone =
        let inside : e.len ≤ 49_152 = omega (arith, used_is, sound.room) in
        let seen = turn-wrap 49_152 c.places.head e.len c.octets sound.octets sound.head inside in
        let same = take-append-le (total es) (drop e.len T) (take e.len T)
        (omega (arith, used_is, sound.room, length-T, length-drop e.len T)) in
        ap (cut es) seen ∙ cut_same es (turn e.len T) (drop e.len T) same

    none_taken : (xs : List Entry) → All IsLong xs → IsWithin 0 xs
    none_taken [] h = refl
    none_taken (x ∷ xs) h = omega (arith, All-head IsLong x xs h)

    long_rest : All IsLong es
    long_rest = All-tail IsLong e es (All-same IsLong (e ∷ es) (live c) (sym is) sound.least)

    gone_sound : IsSound gone
    gone_sound = record {
      octets = sound.octets;
      entries = sound.entries;
      head = wrap-below 49_152 (c.places.head + e.len) (omega (arith, used_is, sound.room, sound.head)) (omega arith);
      first = wrap-below 877 (c.places.first + 1) (omega (arith, sound.first)) (omega arith);
      count = omega (arith, sound.count);
      used = ap total live_gone ∙ omega (arith, used_is);
      room = omega (arith, sound.room);
      least = All-same IsLong (live gone) es live_gone long_rest;
      within = subst (IsWithin 0) (sym live_gone) (none_taken es long_rest);
    }

    others_are : cut (live gone) (turn gone.places.head c.octets) ≡ drop 1 (shows c).frames
    others_are =
        ap (λ (xs : List Entry). cut xs (turn gone.places.head c.octets)) live_gone
        ∙ cut_gone
        ∙ ap (λ (xs : List Entry). drop 1 (cut xs T)) (sym is)

    last_test : nat_lt (c.places.taken + n) (length (first (shows c)).octets) ≡ false
    last_test = ap (nat_lt (c.places.taken + n)) (sym len_is) ∙ grind (arith, nat_tests)

    gone_moves : IsMove c (places_left c.places e.len) n
    gone_moves = record {
      sound = gone_sound;
      shown =
          ap (λ (fs : List Frame). let s : Fifo = record { frames = fs; taken = 0 } in s) others_are
          ∙ ap
          (
          λ (b : Bool).
          let s : Fifo
          = if b then record (shows c) { taken = c.places.taken + n }
          else record { frames = drop 1 (shows c).frames; taken = 0 } in
          s
          )
          (sym last_test);
    }

-- the same at the value that the cells are, where it shows a frame
module _ (c v : Cells) (sound : IsSound c) (is : c ≡ v) (frames : 0 < length (shows v).frames) where
  some : 0 < c.places.count
  some = omega (arith, frames_are c sound, ap (λ (x : Cells). length (shows x).frames) is, frames)

  pub first_at : (e : Entry) → e ≡ get_or c.entries c.places.first e → IsFirst v e
  first_at e read =
      subst (λ (x : Cells). IsFirst x e) is
      (
      first_sound c sound e (drop 1 (live c))
      (first_is c sound e some ∙ ap (λ (x : Entry). x ∷ drop 1 (live c)) (sym read))
      )

  abbrev e : Entry
  e = get_or c.entries c.places.first (record { len = 0; tag = None })

  live_is : live c ≡ e ∷ drop 1 (live c)
  live_is = first_is c sound (record { len = 0; tag = None }) some

  len_here : e.len ≡ length (first (shows v)).octets
  len_here = len_is c sound e (drop 1 (live c)) live_is ∙ ap (λ (x : Cells). length (first (shows x)).octets) is

  taken_here : (shows v).taken ≡ c.places.taken
  taken_here = ap (λ (x : Cells). x.places.taken) (sym is)

  below : c.places.taken < e.len
  below = taken_below c sound e (drop 1 (live c)) live_is

  pub next_at : (n : ℕ) → n ≤ rest (shows v) →
      ring_part c.octets (wrap 49_152 (c.places.head + c.places.taken)) n ≡ next (shows v) n
  next_at n h =
      next_is c sound e (drop 1 (live c)) live_is n (omega (arith, h, len_here, taken_here, below))
      ∙ ap (λ (x : Cells). next (shows x) n) is

  -- its octets lie where the places say
  pub frame_at : (e : Entry) → e ≡ get_or c.entries c.places.first e →
      ring_part c.octets c.places.head e.len ≡ (first (shows v)).octets
  frame_at e read =
      ap (λ (f : Frame). f.octets) (sym (frame_is c sound e (drop 1 (live c))
      (first_is c sound e some ∙ ap (λ (x : Entry). x ∷ drop 1 (live c)) (sym read))))
      ∙ ap (λ (x : Cells). (first (shows x)).octets) is

  pub more_at : (n len : ℕ) → len ≡ length (first (shows v)).octets → c.places.taken + n < len →
      IsMove v (record c.places { taken = c.places.taken + n }) n
  more_at n len whole h =
      subst (λ (x : Cells). IsMove x (record c.places { taken = c.places.taken + n }) n) is
      (more_moves c sound e (drop 1 (live c)) live_is n (omega (arith, len_here)))

  pub last_at : (n len : ℕ) → len ≡ length (first (shows v)).octets → len ≤ c.places.taken + n →
      IsMove v (places_left c.places len) n
  last_at n len whole h =
      subst (λ (x : Cells × ℕ). IsMove x.0 (places_left c.places x.1) n) (λ i. (is i, (len_here ∙ sym whole) i))
      (gone_moves c sound e (drop 1 (live c)) live_is n (omega (arith, len_here)) some)

  -- the octets of a step that are taken back
  pub more_back : (n len : ℕ) → len ≡ length (first (shows v)).octets → c.places.taken + n < len →
      moved_back (record v { places = record c.places { taken = c.places.taken + n } }) n (nat_le (rest (shows v)) n)
      ≡ v.places
  more_back n len whole h =
      let test : nat_le (rest (shows v)) n ≡ false
      = let over : n < rest (shows v) = omega (arith, whole, taken_here) in grind (arith, nat_tests, over) in
      let less : c.places.taken + n - n ≡ c.places.taken = omega arith in
      let back : moved_back (record v { places = record c.places { taken = c.places.taken + n } }) n false ≡ c.places
      = λ i. record c.places { taken = less i } in
      ap (moved_back (record v { places = record c.places { taken = c.places.taken + n } }) n) test
      ∙ back
      ∙ ap (λ (x : Cells). x.places) is

  pub last_back : (n len : ℕ) → len ≡ length (first (shows v)).octets → len ≤ c.places.taken + n →
      n ≤ rest (shows v) →
      moved_back (record v { places = places_left c.places len }) n (nat_le (rest (shows v)) n) ≡ v.places
  last_back n len whole h most =
      let q : Places = c.places in
      let test : nat_le (rest (shows v)) n ≡ true
      = let all : rest (shows v) ≤ n = omega (arith, whole, taken_here) in grind (arith, nat_tests, all) in
      let was_first : back_by 877 1 (wrap 877 (q.first + 1)) ≡ q.first
      = back_by-wrap 877 q.first 1 sound.first (omega arith) in
      let entry : (entry_left (record v { places = places_left q len })).len ≡ len
      = (λ i. (get_or (sym is i).entries (was_first i) (record { len = 0; tag = None })).len) ∙ len_here ∙ sym whole in
      let used : len ≤ q.used = omega (arith, used_is c sound e (drop 1 (live c)) live_is, len_here, whole) in
      let was_head : back_by 49_152 len (wrap 49_152 (q.head + len)) ≡ q.head
      = back_by-wrap 49_152 q.head len sound.head (omega (arith, used, sound.room)) in
      let count : q.count - 1 + 1 ≡ q.count = omega (arith, some) in
      let taken : len - n ≡ q.taken = omega (arith, whole, taken_here, most, h, below, len_here) in
      let sum : q.used - len + len ≡ q.used = omega (arith, used) in
      let back : places_with_first (record v { places = places_left q len }) n ≡ q
      = (
      λ i. record {
        head = back_by 49_152 (entry i) (wrap 49_152 (q.head + len));
        first = was_first i;
        count = count i;
        taken = entry i - n;
        used = q.used - len + entry i;
      }
      )
      ∙ (λ i. record { head = was_head i; first = q.first; count = q.count; taken = taken i; used = sum i }) in
      ap (moved_back (record v { places = places_left q len }) n) test ∙ back ∙ ap (λ (x : Cells). x.places) is
