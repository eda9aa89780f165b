-- What lay there before both writes was saved.
use Rattle.std.proofs.Common.{◌≡◌, ℕ, List, length, take, sym, ap, subst, ◌∙◌, arith}
use Rattle.em_mem.specs.Memory as memory
use Rattle.em_mem.specs.Memory.{part}
use Rattle.em_mem.specs.OldOctets.{OldOctets}
use Rattle.em_mem.proofs.OldOctetsLaws.{first-saved, length-saves, saves, saves_more, second-saved}
use Rattle.em_mem.proofs.PutLaws.{length-part}
use Rattle.em_rx.specs.Fifo.{Cells, IsSound, next, shows}
use Rattle.em_rx.specs.Records.{step_patch}
use Rattle.em_rx.specs.StepPatch.{StepPatch}
use Rattle.em_rx.specs.Undo.{moved_back}
use Rattle.em_rx.proofs.StepLaws.{length-next, step_reverses}
use Rattle.em_rx.proofs.fifo.Fifo.deliver.Goals as goal

pub returns-clause-saves : goal.returns-clause-saves
returns-clause-saves c =
    let m = c.args.memory.now.octets in
    let r = c.args.piece.now in
    let older = saves (part m r.end_at 8) 8 c.args.old.now c.save.new.old
    (length-part m r.end_at 8 c.requires.end_held.to)
    (omega (arith, c.requires.old_room)) c.save.ensures in
    let size = length-saves older in
    let newer = saves (part m r.buffer r.len) r.len c.save.new.old c.save-2.new.old
    (length-part m r.buffer r.len c.requires.held.to) (omega (arith, size, c.requires.old_room)) c.save-2.ensures in
    saves_more older newer c.requires.old_room

pub returns-clause-reverses : goal.returns-clause-reverses
returns-clause-reverses c =
    let f = c.self.inside in
    let v = c.args.self.now in
    let m = c.args.memory.now in
    let r = c.args.piece.now in
    let o : OldOctets = c.save-2.new.old in
    let cells : Cells = record { octets = f.octets.items; entries = f.entries.items; places = f.places } in
    let new : Cells = record cells { places = c.places_after-self-inside.result } in
    let p : StepPatch = step_patch r o in
    let under : List ℕ = part m.octets r.buffer r.len in
    let end : List ℕ = part m.octets r.end_at 8 in
    let size : length under ≡ r.len = length-part m.octets r.buffer r.len c.requires.held.to in
    let eight : length end ≡ 8 = length-part m.octets r.end_at 8 c.requires.end_held.to in
    let first : take r.len o.octets ≡ under
    = ap (λ (n : ℕ). take n o.octets) (sym size) ∙ first-saved under c.save.new.old o c.save-2.ensures in
    let second : part o.octets r.len 8 ≡ end
    = (λ i. part o.octets (sym size i) (sym eight i))
    ∙ second-saved under end c.args.old.now c.save.new.old o c.save.ensures c.save-2.ensures
    (omega (arith, size, eight, c.requires.old_room)) in
    let d = next (shows v) r.len in
    let e = c.args.end.now in
    let size_d : length d ≡ r.len = length-next (shows v) r.len c.requires.count in
    let size_e : length e ≡ 8 = c.requires.eight in
    let count : length p.first.octets ≡ r.len = ap length first ∙ size in
    let same : new ≡ record v { places = c.places_after-self-inside.result }
    = ap (λ (x : Cells). let s : Cells = record x { places = c.places_after-self-inside.result } in s) c.self.view_is in
    let places : moved_back new (length p.first.octets) r.left ≡ v.places
    = (λ i. moved_back (same i) (count i) (c.requires.left i)) ∙ c.places_after-self-inside.ensures.back in
    let wrote : c.write.new.self.octets ≡ memory.put (memory.put m.octets r.buffer d) r.end_at e
    = c.write.ensures.octets ∙ ap (λ (x : List ℕ). memory.put x r.end_at e) c.write_next.ensures.octets in
    let fits_d : memory.Fits m (record { at = r.buffer; octets = d })
    = record {
      held = record { from = c.requires.held.from; to = omega (arith, c.requires.held.to, size_d) };
      made = λ i l. c.requires.made i (omega (arith, l, size_d));
    } in
    let fits_e : memory.Fits m (record { at = r.end_at; octets = e })
    = record {
      held = record { from = c.requires.end_held.from; to = omega (arith, c.requires.end_held.to, size_e) };
      made = λ i l. c.requires.end_made i (omega (arith, l, size_e));
    } in
    step_reverses v new m c.write.new.self p d e (subst IsSound c.self.view_is c.self.invariant) places
    (ap (λ (x : Cells). x.octets) c.self.view_is) (ap (λ (x : Cells). x.entries) c.self.view_is)
    (c.write.ensures.base ∙ c.write_next.ensures.base) wrote (c.write.ensures.made
    ∙ c.write_next.ensures.made) fits_d fits_e
    (first ∙ ap (part m.octets r.buffer) (sym size_d)) (second ∙ ap (part m.octets r.end_at) (sym size_e))
