-- A step is taken back by what lay where it writes.
use Rattle.std.proofs.Common.{◌≡◌, ℕ, ◌≤◌, List, length, drop, sym, ap, subst, ◌∙◌, arith, length-drop}
use Rattle.std.proofs.lemmas.List.{length-take-le}
use Rattle.em_mem.specs.Memory as memory
use Rattle.em_mem.proofs.PutLaws.{length-part, length-put}
use Rattle.em_rx.specs.Fifo.{Cells, Fifo, IsSound, first, next, rest}
use Rattle.em_rx.specs.StepPatch.{StepPatch}
use Rattle.em_rx.specs.Undo.{ReversesStep, places_before}
use Rattle.em_rx.proofs.BackLaws.{both_back}

-- the next octets are as many as were asked for
pub length-next : (fifo : Fifo) (n : ℕ) → n ≤ rest fifo → length (next fifo n) ≡ n
length-next fifo n h =
    length-take-le n (drop fifo.taken (first fifo).octets) (omega (arith, length-drop fifo.taken (first fifo).octets))

-- what lay where a step writes, before it did, takes the step back
pub step_reverses : (v new : Cells) (before after : memory.Cells) (p : StepPatch) (d e : List ℕ) →
    IsSound v → places_before new p ≡ v.places → new.octets ≡ v.octets → new.entries ≡ v.entries →
    after.base ≡ before.base → after.octets ≡ memory.put (memory.put before.octets p.first.at d) p.second.at e
    → after.made ≡ before.made →
    memory.Fits before (record { at = p.first.at; octets = d }) →
    memory.Fits before (record { at = p.second.at; octets = e }) →
    p.first.octets ≡ memory.part before.octets p.first.at (length d) →
    p.second.octets ≡ memory.part before.octets p.second.at (length e) →
    ReversesStep v new before after p
step_reverses v new before after p d e sound places octets entries begins wrote kept fits_d fits_e was_d was_e =
    let back : record new { places = places_before new p } ≡ v
    = λ i. record { octets = octets i; entries = entries i; places = places i } in
    let one : List ℕ = memory.put before.octets p.first.at d in
    let one_size = length-put before.octets p.first.at d fits_d.held.to in
    let both_size = length-put one p.second.at e (omega (arith, one_size, fits_e.held.to)) in
    let size : length after.octets ≡ length before.octets = omega (arith, ap length wrote, both_size, one_size) in
    let count = ap length was_d ∙ length-part before.octets p.first.at (length d) fits_d.held.to in
    let count_e = ap length was_e ∙ length-part before.octets p.second.at (length e) fits_e.held.to in
    let first_held : memory.IsHeld after p.first.at (length p.first.octets)
    = record { from = omega (arith, begins, fits_d.held.from); to = omega (arith, size, count, fits_d.held.to) } in
    let back_size = length-put after.octets p.first.at p.first.octets first_held.to in
    let made : (a n i : ℕ) → memory.IsMade before a n → i ≡ n → memory.IsMade after a i
    = λ a n i is_made same k l. rw kept (is_made k (omega (arith, l, same))) in
    record {
      fits = record {
        first = record { held = first_held; made = made p.first.at (length d) _ fits_d.made count };
        second = record {
          held = record {
            from = omega (arith, begins, fits_e.held.from);
            to = omega (arith, back_size, size, count_e, fits_e.held.to);
          };
          made = made p.second.at (length e) _ fits_e.made count_e;
        };
        sound = subst IsSound (sym back) sound;
      };
      fifo = back;
      memory =
          let octets = ap
          (λ (x : List ℕ). memory.put (memory.put x p.first.at p.first.octets) p.second.at p.second.octets) wrote
          ∙ both_back before.octets p.first.at d p.second.at e p.first.octets p.second.octets fits_d.held.to
          fits_e.held.to
          was_d was_e in
          λ i. record { base = begins i; octets = octets i; made = kept i };
    }
