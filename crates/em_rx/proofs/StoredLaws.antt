-- What is known of the frames that sound cells show.
use Rattle.std.proofs.Common.{◌≡◌, ℕ, ◌+◌, ◌≤◌, ◌<◌, List, [], ◌∷◌, length, take, drop, subst, sym, arith, length-drop}
use Rattle.std.proofs.lemmas.List.{length-take-le}
use Rattle.std.proofs.lemmas.List.Sums.{sum_by-cons}
use Rattle.std.proofs.lemmas.List.Elements.{All-nil, All-cons, All-head, All-tail}
use Rattle.std.specs.Prelude.{All}
use Rattle.em_mem.specs.Ring.{turn}
use Rattle.em_mem.proofs.RingLaws.{length-turn}
use Rattle.em_rx.specs.Frame.{Frame, len_of}
use Rattle.em_rx.specs.Fifo.{Cells, Fifo, IsFifo, IsSound, IsTakenOf, IsWithin, cut, live, shows, total}
use Rattle.em_rx.specs.declared.places.Entry.{Entry}
use Rattle.em_rx.proofs.ArrivalLaws.{octets_in-shows}
use Rattle.em_rx.proofs.CutLaws.{IsLong}

abbrev IsLongFrame : Frame → Type 0
IsLongFrame frame = 56 ≤ len_of frame

cut_least : (es : List Entry) (m : List ℕ) → total es ≤ length m → All IsLong es → All IsLongFrame (cut es m)
cut_least [] m h long = All-nil IsLongFrame
cut_least (e ∷ es) m h long =
    let s = sum_by-cons (λ (x : Entry). x.len) e es in
    let size : length (take e.len m) ≡ e.len = length-take-le e.len m (omega (arith, s)) in
    let head = All-head IsLong e es long in
    All-cons IsLongFrame _ (cut es (drop e.len m)) (omega (arith, size, head))
    (cut_least es (drop e.len m) (omega (arith, s, length-drop e.len m)) (All-tail IsLong e es long))

cut_taken : (t : ℕ) (es : List Entry) (m : List ℕ) → total es ≤ length m → IsWithin t es → IsTakenOf t (cut es m)
cut_taken t [] m h within = within
cut_taken t (e ∷ es) m h within =
    let s = sum_by-cons (λ (x : Entry). x.len) e es in
    let size : length (take e.len m) ≡ e.len = length-take-le e.len m (omega (arith, s)) in
    omega (arith, size, within)

pub is_fifo : (c : Cells) → IsSound c → IsFifo (shows c)
is_fifo c sound =
    let octets = turn c.places.head c.octets in
    let enough : total (live c) ≤ length octets
    = omega (arith, sound.used, sound.room, sound.octets, length-turn c.places.head c.octets) in
    record {
      room = omega (arith, octets_in-shows c sound, sound.room);
      least = cut_least (live c) octets enough sound.least;
      taken = cut_taken c.places.taken (live c) octets enough sound.within;
    }
