-- An arrival is taken back by what it replaced.
use Rattle.std.proofs.Common.{◌≡◌, ℕ, ◌+◌, ◌-◌, ◌≤◌, List, length, set, get_or, sym, ap, subst, ◌∙◌, arith}
use Rattle.std.proofs.lemmas.List.{set-set, set-get_or}
use Rattle.em_mem.specs.Ring.{ring_part, ring_put, wrap}
use Rattle.em_mem.proofs.RingLaws.{length-ring_part, ring_put-ring_put}
use Rattle.em_rx.specs.Fifo.{Cells, IsSound}
use Rattle.em_rx.specs.FramePatch.{FramePatch}
use Rattle.em_rx.specs.Undo.{FitsFrame, places_without, with_patch}
use Rattle.em_rx.specs.declared.places.Entry.{Entry}
use Rattle.em_rx.specs.declared.places.Places.{Places}
use Rattle.em_rx.proofs.ArrivalLaws.{frame_at, has_place, with_arrival}

-- what an arrival of n octets replaces in cells
abbrev pub replaced : Cells → ℕ → Entry → FramePatch
replaced c n e = record {
  octets = ring_part c.octets (wrap 49_152 (c.places.head + c.places.used)) n;
  entry = get_or c.entries (wrap 877 (c.places.first + c.places.count)) e;
}

module _ (c : Cells) (d : List ℕ) (e f : Entry) (sound : IsSound c) (is : length d ≡ e.len)
    (room : c.places.used + length d ≤ 49_152) (long : 56 ≤ length d) where
  abbrev after : Cells
  after = with_arrival c d e

  abbrev p : FramePatch
  p = replaced c (length d) f

  size : length p.octets ≡ length d
  size =
      length-ring_part c.octets (wrap 49_152 (c.places.head + c.places.used)) (length d)
      (omega (arith, room, sound.octets))

  places_are : places_without after.places (length p.octets) ≡ c.places
  places_are =
      let count : c.places.count + 1 - 1 ≡ c.places.count = omega arith in
      let used : c.places.used + length d - length p.octets ≡ c.places.used = omega (arith, size) in
      λ i. record {
        head = c.places.head;
        first = c.places.first;
        count = count i;
        taken = c.places.taken;
        used = used i;
      }

  arrival_back : with_patch after p ≡ c
  arrival_back =
      let k : ℕ = wrap 49_152 (c.places.head + c.places.used) in
      let j : ℕ = wrap 877 (c.places.first + c.places.count) in
      let octets : ring_put after.octets k p.octets ≡ c.octets
      = ring_put-ring_put c.octets k d
      (omega (arith, frame_at c d e sound is room long, sound.octets)) (omega (arith, room, sound.octets)) in
      let entries : set after.entries j p.entry ≡ c.entries
      = set-set c.entries j e (get_or c.entries j f) ∙ set-get_or c.entries j f in
      let at : Places → Cells
      = λ q. record {
        octets = ring_put after.octets (wrap 49_152 (q.head + q.used)) p.octets;
        entries = set after.entries (wrap 877 (q.first + q.count)) p.entry;
        places = q;
      } in
      ap at places_are ∙ (λ i. record { octets = octets i; entries = entries i; places = c.places })

  pub arrival_reverses : FitsFrame after p × (with_patch after p ≡ c)
  arrival_reverses = (
    record {
      some = omega arith;
      count = omega (arith, has_place c d e sound is room long);
      used = omega (arith, size);
      sound = subst IsSound (sym arrival_back) sound;
    },
    arrival_back,
  )

-- the same of cells and a patch that are known to be these
pub reverses_at : (c v new : Cells) (d : List ℕ) (e : Entry) (p : FramePatch) → IsSound c → c ≡ v → length d ≡ e.len
    → c.places.used + length d ≤ 49_152 → 56 ≤ length d → new ≡ with_arrival c d e → p ≡ replaced c (length d) p.entry
    → FitsFrame new p × (with_patch new p ≡ v)
reverses_at c v new d e p sound is len room long left gives =
    subst (λ (x : Cells × FramePatch × Cells). FitsFrame x.0 x.1 × (with_patch x.0 x.1 ≡ x.2))
    (λ i. (sym left i, sym gives i, is i)) (arrival_reverses c d e p.entry sound len room long)
