-- The frame lies behind the last one, and what lay there was saved.
use Rattle.std.proofs.Common.{◌≡◌, ◌+◌, ℕ, List, length, take, get_or, refl, sym, ap, subst, ◌∙◌, arith}
use Rattle.em_mem.specs.Ring.{ring_part, wrap}
use Rattle.em_mem.specs.OldOctets.{OldOctets}
use Rattle.em_mem.proofs.OldOctetsLaws.{first-saved}
use Rattle.em_mem.proofs.RingLaws.{length-ring_part}
use Rattle.em_rx.specs.Fifo.{Cells, IsSound, after_arrival, shows}
use Rattle.em_rx.specs.FramePatch.{FramePatch}
use Rattle.em_rx.specs.declared.places.Entry.{Entry}
use Rattle.em_rx.proofs.ArrivalLaws.{arrival_shows, arrival_sound, arrived, room_at}
use Rattle.em_rx.proofs.PatchLaws.{replaced, reverses_at}
use Rattle.em_rx.proofs.fifo.Fifo.put_last.Goals as goal

pub invariant_of-self : goal.invariant_of-self
invariant_of-self c =
    let f = c.self.inside in
    let d = c.args.octets.now in
    let e : Entry = record { len = length d; tag = c.args.tag } in
    let cells : Cells = record { octets = f.octets.items; entries = f.entries.items; places = f.places } in
    let left = arrived cells d e c.wrap-at.result c.wrap-index.result c.put_octets.new.ring.items c.wrap-at.ensures
    c.wrap-index.ensures c.put_octets.ensures.ring _ refl in
    let room = room_at cells c.args.self.now (length d) c.self.invariant c.self.view_is c.requires.room in
    subst IsSound (sym left) (arrival_sound cells d e c.self.invariant refl room c.requires.least)

pub returns-clause-shown : goal.returns-clause-shown
returns-clause-shown c =
    let f = c.self.inside in
    let d = c.args.octets.now in
    let e : Entry = record { len = length d; tag = c.args.tag } in
    let cells : Cells = record { octets = f.octets.items; entries = f.entries.items; places = f.places } in
    let left = arrived cells d e c.wrap-at.result c.wrap-index.result c.put_octets.new.ring.items c.wrap-at.ensures
    c.wrap-index.ensures c.put_octets.ensures.ring _ refl in
    let room = room_at cells c.args.self.now (length d) c.self.invariant c.self.view_is c.requires.room in
    ap shows left
    ∙ arrival_shows cells d e c.self.invariant refl room c.requires.least
    ∙ ap (λ (x : Cells). after_arrival (shows x) (record { octets = d; tag = c.args.tag })) c.self.view_is

pub returns-clause-reverses : goal.returns-clause-reverses
returns-clause-reverses c = λ m.
    let f = c.self.inside in
    let d = c.args.octets.now in
    let e : Entry = record { len = length d; tag = c.args.tag } in
    let cells : Cells = record { octets = f.octets.items; entries = f.entries.items; places = f.places } in
    let left = arrived cells d e c.wrap-at.result c.wrap-index.result c.put_octets.new.ring.items c.wrap-at.ensures
    c.wrap-index.ensures c.put_octets.ensures.ring _ refl in
    let room = room_at cells c.args.self.now (length d) c.self.invariant c.self.view_is c.requires.room in
    let now : OldOctets = c.save_part.new.old in
    let at = wrap 49_152 (f.places.head + f.places.used) in
    let lay : List ℕ = ring_part c.as_slice.result.now c.wrap-at.result (length d) in
    let same : lay ≡ ring_part f.octets.items at (length d)
    = λ i. ring_part (c.as_slice.ensures.value i) (c.wrap-at.ensures i) (length d) in
    let size : length lay ≡ length d
    = ap length same
    ∙ length-ring_part f.octets.items at (length d) (omega (arith, c.self.invariant.octets, room)) in
    let p : FramePatch = record { octets = take (length d) now.octets; entry = c.index-entry.result.now } in
    let gives : p ≡ replaced cells (length d) p.entry
    = λ i. record {
      octets =
          (ap (λ (n : ℕ). take n now.octets) (sym size)
          ∙ first-saved lay c.args.old.now now c.save_part.ensures ∙ same) i;
      entry = (c.index-entry.ensures ∙ ap (λ (k : ℕ). get_or f.entries.items k p.entry) c.wrap-index.ensures) i;
    } in
    let back = reverses_at cells c.args.self.now _ d e p c.self.invariant c.self.view_is refl room c.requires.least
    left gives in
    record { fits = back.0; fifo = back.1; memory = refl }
